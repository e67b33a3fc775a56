-- The codes that are written by hand keep the rules on code, with the functions that are defined in them.
use Rattle.std.proofs.Common.{◌≡◌, ℕ, suc, Bool, true, ◌&&◌, List, [], ◌∷◌, refl}
use Rattle.std.specs.List.{list_all}
use Rattle.code_core.specs.Opcode.{opcodes, number_of}
use Rattle.code_core.specs.declared.instruction.Instruction.{Instruction}
use Rattle.code_core.specs.Prototype.{Prototype, list_of}
use Rattle.code_core.specs.Check.{rules, is_sized, is_described}
use Rattle.code_examples.proofs.Vectors.{changes_operand_code, last_value_code, spreads_code, faults_code, closes_at_end_code}
use Rattle.code_examples.proofs.LoopVectors.{repeats_code, breaks_out_code, returns_from_for_code, continues_code, jumps_about_code, leaves_scopes_code, tests_at_once_code}
use Rattle.code_examples.proofs.MoreVectors.{globals_code, decides_code, chooses_code, calls_method_code, makes_tables_code, holds_items_code, swaps_code, numbers_code, tests_code}

abbrev places_keep : Prototype → ℕ → List Instruction → Bool
places_keep p pc [] = true
places_keep p pc (w ∷ ws) = list_all (λ r. r.1) (rules p pc w) && places_keep p (suc pc) ws

abbrev keeps_rules : Prototype → Bool
keeps_rules p = is_sized p && (is_described p && places_keep p 0 p.own.code)

abbrev all_keep : Prototype → Bool
all_keep p = keeps_rules p && list_all keeps_rules (list_of p.inner)

jumps_and_calls_keep : list_all all_keep (changes_operand_code ∷ last_value_code ∷ spreads_code ∷ faults_code ∷ closes_at_end_code ∷ []) ≡ true
unfolding opcodes number_of
jumps_and_calls_keep = refl

tables_and_tests_keep : list_all all_keep (globals_code ∷ decides_code ∷ chooses_code ∷ calls_method_code ∷ makes_tables_code ∷ holds_items_code ∷ swaps_code ∷ numbers_code ∷ tests_code ∷ []) ≡ true
unfolding opcodes number_of
tables_and_tests_keep = refl

loops_keep : list_all all_keep (repeats_code ∷ breaks_out_code ∷ returns_from_for_code ∷ continues_code ∷ jumps_about_code ∷ leaves_scopes_code ∷ tests_at_once_code ∷ []) ≡ true
unfolding opcodes number_of
loops_keep = refl
