-- Cases of the row of `build`: what it gives, and the function and the cell that it makes.
use Rattle.std.proofs.Common.{◌≡◌, ℕ, List, [], ◌∷◌, Option, Some, None, refl}
use Rattle.std.specs.Prelude.{codes}
use Rattle.std.specs.Int.{int_wrap}
use Rattle.std.specs.Fmt.{digits}
use Rattle.int_core.specs.Value.{nil, a_table, a_function, Value, known, object}
use Rattle.code_core.specs.Opcode.{opcodes, number_of}
use Rattle.code_core.specs.Prototype.{Prototype}
use Rattle.load_rows.specs.Loading.{built, refused_at, Builds}
use Rattle.machine_core.specs.World.{Function, Cell, closed, pcall, in_progress, World}
use Rattle.machine_core.specs.Moves.{add_loaded, returned, raised, Ending, Outcome, trapped, ends, run}
use Rattle.machine_core.specs.PrimitiveRows.{load_row}
use Rattle.machine_core.proofs.Machine.{plain, int, text, started}

abbrev empty : Prototype
empty = plain 2 []

-- a source of two bytes or more is built to this code, and any other is refused
abbrev builds : Builds Prototype
builds name source = elim source [
  | [] ↦ refused_at 1 None
  | _ ∷ rest ↦ elim rest [ [] ↦ refused_at 7 (Some 2) | _ ∷ _ ↦ built empty ]
]

-- the world of one protected call, in which this moves
abbrev given : List Value → World
given vs = record (started 0 [] [] [] []) { coroutines = in_progress (pcall ∷ []) ∷ []; moving = vs; globals = 5 }

abbrev loads : List Value → Outcome
loads vs = run (load_row builds) [] (given vs)

abbrev told : Outcome → Option (Ending × List Value × List Function × List Cell)
told trapped = None
told (ends e W) = Some (e, W.moving, W.functions, W.cells)

made : told (loads (text (codes "ab") ∷ [])) ≡ Some (returned, object a_function 0 ∷ [], record { code = empty; cells = 0 ∷ [] } ∷ [], closed (object a_table 5) ∷ [])
unfolding add_loaded digits
made = refl

made_in_an_environment : told (loads (text (codes "ab") ∷ known nil ∷ text (codes "t") ∷ int 3 ∷ [])) ≡ Some (returned, object a_function 0 ∷ [], record { code = empty; cells = 0 ∷ [] } ∷ [], closed (int 3) ∷ [])
unfolding add_loaded digits
made_in_an_environment = refl

-- a fourth argument counts, also where it is nil
made_without_one : told (loads (text (codes "ab") ∷ known nil ∷ known nil ∷ known nil ∷ [])) ≡ Some (returned, object a_function 0 ∷ [], record { code = empty; cells = 0 ∷ [] } ∷ [], closed (known nil) ∷ [])
unfolding add_loaded digits
made_without_one = refl

refused : told (loads (text (codes "a") ∷ text (codes "=n") ∷ [])) ≡ Some (returned, known nil ∷ text (codes "n:7: source refused by rule 2") ∷ [], [], [])
unfolding add_loaded digits
refused = refl

no_source : told (loads (object a_table 0 ∷ [])) ≡ Some (raised, text (codes "bad argument #1 to 'load' (string expected, got table)") ∷ [], [], [])
unfolding add_loaded digits
no_source = refl
