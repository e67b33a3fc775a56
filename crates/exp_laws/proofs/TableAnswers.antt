-- Why an answer to the making of a table has to be a table: were it nil, a tree would ask that nil be filled, and its code would raise an error.
use Rattle.std.proofs.Common.{◌≡◌, [], ◌∷◌, refl, Option, Some, None}
use Rattle.std.specs.Prelude.{codes}
use Rattle.std.specs.Int.{int_wrap}
use Rattle.int_core.specs.Value.{known, nil}
use Rattle.int_core.specs.Ask.{Ask, fills_table, raises, values, Next, says, runs}
use Rattle.tree_core.specs.Tree.{Body, Table, Item, fields}
use Rattle.tree_activation.specs.Work.{when_captured}
use Rattle.tree_activation.specs.Activation.{start, step}
use Rattle.code_core.specs.Opcode.{opcodes, number_of}
use Rattle.code_core.specs.Prototype.{Prototype}
use Rattle.machine_core.specs.Talk.{talk_start, talk_step}
use Rattle.code_means.specs.Asks.{shown}
use Rattle.code_means.proofs.Traces.{number}
use Rattle.tree_terms.proofs.Forms.{int, returning, fun}
use Rattle.code_of.specs.CodeOf.{code_of}

-- return {1}
abbrev constructs : Body
constructs = fun [] [] (returning [] (Table 1 (fields (Item (int 1) ∷ [])) ∷ []))

abbrev compiled : Prototype
compiled = code_of (Some (codes "@s.lua")) constructs

abbrev asked : {F S : Type 0} → Next F S → Option (Ask (Unit {0}))
asked (says q line shared k) = Some (shown q)
asked _ = None

-- what is asked once the first ask is answered by nil
abbrev after_nil : {F S : Type 0} → (S → Next F S) → Next F S → Option (Ask (Unit {0}))
after_nil step (says q line shared k) = asked (runs step 20 (k (record { reply = values (known nil ∷ []); shared = []; cell = 0 })))
after_nil step _ = None

tree_fills : after_nil step (runs step 20 (start when_captured constructs [])) ≡ Some (fills_table (known nil) 0 (number 1 ∷ []))
unfolding int_wrap
tree_fills = refl

code_raises : after_nil (talk_step compiled) (runs (talk_step compiled) 20 (talk_start compiled [])) ≡ Some (raises (codes "attempt to index a nil value"))
unfolding opcodes number_of int_wrap
code_raises = refl
