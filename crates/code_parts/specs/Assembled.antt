-- A function's prototype of its body and of what is written for it: code with lines, constants and local variables.
use Rattle.std.specs.Prelude.{ℕ, List, map, Option}
use Rattle.tree_core.specs.Tree.{Body}
use Rattle.code_core.specs.declared.proto.Const.{Const}
use Rattle.code_core.specs.declared.proto.LocVar.{LocVar}
use Rattle.code_core.specs.Prototype.{Parts, Prototype, Prototypes, none, more}
use Rattle.code_of.specs.CodeOf.{parts_with}
use Rattle.code_emitter.specs.Listing.{low}
use Rattle.code_emitter.specs.declared.emitter.Step.{Step}

abbrev pub assembled : (source : Option (List ℕ)) → Body → List Step → List Const → List LocVar → Parts
assembled source body steps constants locals = parts_with source body (map (λ s. s.instruction) steps) (map (λ s. s.line) steps) constants locals

-- prototypes with the low 32 bits of each word

abbrev pub low_parts : Parts → Parts
low_parts p = record p { code = map low p.code }

abbrev pub low_prototypes : Prototypes → Prototypes
low_prototypes none = none
low_prototypes (more own inner rest) = more (low_parts own) (low_prototypes inner) (low_prototypes rest)

abbrev pub low_prototype : Prototype → Prototype
low_prototype p = record { own = low_parts p.own; inner = low_prototypes p.inner }
