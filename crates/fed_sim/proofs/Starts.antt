-- Rooms that start, and rooms that do not.
use Rattle.std.proofs.Common.{◌≡◌, ◌≢◌, ◌<◌, ℕ, List, [], length, map, string_bytes, String, Global, Some, None, Err, refl, sym, ap, subst, ◌∙◌}
use Rattle.std.specs.List.Sorted.{IsPermutation}
use Rattle.std.proofs.lemmas.List.{length-map}
use Rattle.std.proofs.lemmas.Option.{slice_get_within}
use Rattle.fed_dest.specs.ListParts.{AreInOrder}
use Rattle.fed_redaction.specs.declared.version.Version.TheVariants.{V10}
use Rattle.fed_sim.specs.declared.packet.Packet.{Packet}
use Rattle.fed_sim.specs.declared.server.Server.{Server}
use Rattle.fed_sim.specs.declared.setup.Setup.{Setup}
use Rattle.fed_sim.specs.declared.starting.Start.{Start}
use Rattle.fed_sim.specs.Starts.{AreStarts, AreBegun, IsNotAccepted}
use Rattle.fed_sim.specs.WorldFields.{world_with}
use Rattle.fed_sim.proofs.Built.{mapped}
use Rattle.fed_sim.proofs.Packets.{sent_of}
use Rattle.fed_sim.proofs.Worlds.{seen_of}
use Rattle.std.specs.Prelude.{slice_get}
use Rattle.fed_room.specs.Creation.{started_of}
use Rattle.fed_room.specs.Room.{room_rules}
use Rattle.fed_room.specs.Start.{start_fault_of}
use Rattle.fed_room.specs.declared.start_fault.StartFault.{StartFault}
use Rattle.fed_room.specs.declared.start_fault.StartFault.TheVariants as start
use Rattle.fed_room.specs.declared.started_fault.StartedFault.{StartedFault}
use Rattle.fed_room.specs.declared.started_fault.StartedFault.TheVariants as started
use Rattle.fed_sim.specs.declared.setup.RoomSetup.{RoomSetup}
use Rattle.fed_sim.specs.declared.setup.SimFault.TheVariants.{BadSetup}
use Rattle.fed_sim.specs.Hosted.{HostedState}
use Rattle.fed_sim.specs.NewServer.{IsNewServer}
use Rattle.fed_sim.specs.Offering.{signer_named}
use Rattle.fed_sim.specs.Running.{Begins, IsBegun, IsBeginning, HasNoStart}
use Rattle.fed_sim.specs.Server.{ServerState}
use Rattle.fed_sim.specs.Setup.{id_of, users_of, sim_fault_of_started, sim_fault_of_start}
use Rattle.fed_sim.proofs.Between.{same_some}
use Rattle.fed_sim.proofs.Servers.{listed}

-- want of memory is no bad setup
not_memory_started : (fault : StartedFault) → sim_fault_of_started fault ≡ BadSetup → fault ≢ started.Memory
not_memory_started started.Memory bad same = absurd (cc)
not_memory_started started.NoUser bad same = absurd (cc)
not_memory_started (started.NoKeys place) bad same = absurd (cc)
not_memory_started (started.Bad fault) bad same = absurd (cc)

not_memory_start : (fault : StartFault) → sim_fault_of_start fault ≡ BadSetup → fault ≢ start.Memory
not_memory_start start.Memory bad same = absurd (cc)
not_memory_start start.Empty bad same = absurd (cc)
not_memory_start start.NotCreate bad same = absurd (cc)
not_memory_start start.Version bad same = absurd (cc)
not_memory_start (start.NotAccepted place receipt) bad same = absurd (cc)

-- a room of which no events are made
pub none_made : (names : List (List ℕ)) (setups : List RoomSetup) (place : ℕ) (setup : RoomSetup) (fault : StartedFault) → slice_get setups place ≡ Some setup
    → (fault ≢ started.Memory → started_of signer_named names V10 (id_of setup) (users_of setup) ≡ Err fault) → sim_fault_of_started fault ≡ BadSetup → HasNoStart names setups
none_made names setups place setup fault here fails bad = record {
  place = place;
  setup = setup;
  setup_is = here;
  none = λ events starts. let made = starts.made in let failed = fails (not_memory_started fault bad) in cc;
}

-- events that are not all accepted
pub not_accepted : (starts : List Start) (place : ℕ) (here : Start) (fault : StartFault) → slice_get starts place ≡ Some here → (fault ≢ start.Memory → start_fault_of room_rules here.events.items ≡ Some fault)
    → sim_fault_of_start fault ≡ BadSetup → IsNotAccepted starts
not_accepted starts place here fault at fails bad = record {
  place = place;
  start = here;
  start_is = at;
  refused = λ passes. let failed = fails (not_memory_start fault bad) in cc;
}

-- a room whose events are not all accepted
pub none_accepted : (names : List (List ℕ)) (setups : List RoomSetup) (starts : List Start) → length starts ≡ length setups → AreStarts names setups starts → IsNotAccepted starts → HasNoStart names setups
none_accepted names setups starts count made n =
    let there = listed setups n.place (subst (λ k. n.place < k) count (slice_get_within starts n.place n.start n.start_is)) in
    let are = made n.place n.start n.start_is there.0 there.1 in
    record {
      place = n.place;
      setup = there.0;
      setup_is = there.1;
      none = λ events other.
          let same : events ≡ n.start.events.items = let is = other.made in cc in
          n.refused (subst (λ es. start_fault_of room_rules es ≡ None) same other.accepted);
    }

-- the rooms that begin with them
pub begun_with : (names : List (List ℕ)) (own : List ℕ) (setups : List RoomSetup) (starts : List Start) (hosted : List HostedState) → length hosted ≡ length starts → AreStarts names setups starts
    → AreBegun own starts hosted → (k : ℕ) (h : HostedState) → slice_get hosted k ≡ Some h → (setup : RoomSetup) → slice_get setups k ≡ Some setup → IsBegun names own setup h
begun_with names own setups starts hosted count made begun k h there setup is =
    let at = listed starts k (subst (λ n. k < n) count (slice_get_within hosted k h there)) in
    let room = begun k h there at.0 at.1 in
    record {
      events = at.0.events.items;
      starts = record { made = made k at.0 at.1 setup is; accepted = room.accepted };
      own_is = room.own_is;
      room_is = room.room_is;
      queue_is = room.queue_is;
    }

-- a new server whose rooms have begun at a server of its name
pub is_beginning : (names known : List (List ℕ)) (setups : List RoomSetup) (place : ℕ) (s : ServerState) (hosted : List HostedState) (own : List ℕ) → length hosted ≡ length setups
    → IsNewServer names known place hosted s → slice_get names place ≡ Some own
    → ((k : ℕ) (h : HostedState) → slice_get hosted k ≡ Some h → (setup : RoomSetup) → slice_get setups k ≡ Some setup → IsBegun names own setup h)
    → IsBeginning names known setups place s
is_beginning names known setups place s hosted own count new named begun = record {
  hosted = hosted;
  count = count;
  new = new;
  begun = λ k h there setup is. subst (λ name. IsBegun names name setup h) (same_some own new.name (sym named ∙ new.name_is)) (begun k h there setup is);
}

-- a world of new servers begins with the setup
pub begins_so : (setup : Setup) (names : List (List ℕ)) (known : List (String Global)) (servers : List Server) (packets : List Packet) → IsPermutation setup.servers.items names → AreInOrder names
    → map string_bytes known ≡ map (λ (r : RoomSetup). string_bytes r.id) setup.rooms.items → length servers ≡ length names
    → ((k : ℕ) (s : Server) → slice_get servers k ≡ Some s → IsBeginning names (map string_bytes known) setup.rooms.items k (seen_of s)) → packets ≡ []
    → Begins setup (world_with names known setup.epoch servers packets 0)
begins_so setup names known servers packets permuted order ids count each none = record {
  names = permuted;
  order = order;
  known = ids;
  epoch = refl;
  count = length-map servers seen_of ∙ count;
  servers = λ k s here.
      let found = mapped seen_of servers k s here in
      subst (λ (t : ServerState). IsBeginning names (map string_bytes known) setup.rooms.items k t) found.2 (each k found.0 found.1);
  packets = ap (map sent_of) none;
  now = refl;
}
