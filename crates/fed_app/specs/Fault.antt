-- Which fault an error of input or output becomes.
use Rattle.std.specs.Prelude.{◌≡◌, ◌≢◌}
use Rattle.std.specs.declared.io.ErrorKind.{ErrorKind}
use Rattle.std.specs.declared.io.ErrorKind.TheVariants.{OutOfMemory}
use Rattle.fed_app.specs.declared.fault.RunFault.{RunFault}
use Rattle.fed_app.specs.declared.fault.RunFault.TheVariants.{Memory, WrongWords, Io}

-- want of memory stays that, any other kind is a fault of input or output, and none is one of words
abbrev pub IsFaultOf : ErrorKind → RunFault → Type 0
IsFaultOf kind Memory = kind ≡ OutOfMemory
IsFaultOf kind Io = kind ≢ OutOfMemory
IsFaultOf kind (WrongWords line) = ⊥
