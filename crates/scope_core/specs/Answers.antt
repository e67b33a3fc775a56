-- What is answered of a source: its tree with all places set where it keeps the static rules, else the least violation. Want of memory can be answered of every source.
use Rattle.std.specs.Prelude.{◌≡◌, []}
use Rattle.tree_core.specs.Tree.{Block}
use Rattle.tree_core.specs.Plain.{plain_body}
use Rattle.scope_core.specs.declared.resolved.Resolved.{Resolved}
use Rattle.scope_core.specs.declared.resolved.ScopeFault.{ScopeFault}
use Rattle.scope_core.specs.declared.resolved.ScopeFault.TheVariants.{Refused, Memory}
use Rattle.scope_core.specs.Places.{placed}
use Rattle.scope_core.specs.Rules.{violations}
use Rattle.scope_core.specs.Least.{IsLeast}

abbrev pub IsResolved : Block → Resolved → Type 0
IsResolved source resolved = (violations source ≡ []) × (plain_body resolved.main ≡ placed source)

abbrev pub IsFaultOf : Block → ScopeFault → Type 0
IsFaultOf source (Refused rule line) = IsLeast (violations source) (record { line = line; rule = rule })
IsFaultOf source Memory = Unit {0}
