-- How a verdict is stored where a contract keeps one. Nothing else is said of it.
use Rattle.std.specs.Prelude.{◌≡◌, ℕ, ◌==◌, if◌then◌else◌, refl}
use Rattle.std.specs.Coded.{Coded, code_by, coded×, coded_ℕ}
use Rattle.fed_room_contract.specs.declared.rule.Rule.{Rule}
use Rattle.fed_room_contract.specs.declared.verdict.Verdict.{Verdict}
use Rattle.fed_room_contract.specs.declared.verdict.Verdict.TheVariants.{Accepted, Rejected, SoftFailed}

abbrev pub rule_code : Coded Rule
rule_code = code_by (ℕ × (ℕ × ℕ)) (coded× coded_ℕ (coded× coded_ℕ coded_ℕ)) (λ r. (r.section, (r.condition, r.branch))) (λ p. record { section = p.0; condition = p.1.0; branch = p.1.1 }) (λ _. refl)

abbrev pub no_rule : Rule
no_rule = record { section = 0; condition = 0; branch = 0 }

abbrev pub as_pair : Verdict → ℕ × Rule
as_pair Accepted = (0, no_rule)
as_pair (Rejected rule) = (1, rule)
as_pair (SoftFailed rule) = (2, rule)

abbrev pub of_pair : ℕ × Rule → Verdict
of_pair p = if p.0 == 0 then Accepted else if p.0 == 1 then Rejected p.1 else SoftFailed p.1

pub of_pair-as_pair : (v : Verdict) → of_pair (as_pair v) ≡ v
of_pair-as_pair Accepted = refl
of_pair-as_pair (Rejected rule) = refl
of_pair-as_pair (SoftFailed rule) = refl

abbrev pub verdict_code : Coded Verdict
verdict_code = code_by (ℕ × Rule) (coded× coded_ℕ rule_code) as_pair of_pair of_pair-as_pair
