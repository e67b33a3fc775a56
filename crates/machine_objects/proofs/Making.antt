-- The row of an instruction that makes a function.
use Rattle.std.proofs.Common.{◌≡◌, ℕ, List, [], ◌∷◌, Some, ap, sym, subst, ◌∙◌, true}
use Rattle.int_core.specs.Value.{Value, object, a_function}
use Rattle.machine_core.specs.World.{Place, place_of}
use Rattle.machine_core.specs.Text.{read, make_function, Text, quick}
use Rattle.machine_core.specs.InstructionRows.{opens, to_register}
use Rattle.machine_core.specs.FrameRows.{expand}
use Rattle.machine_core.specs.Moves.{Ending, outside, run}
use Rattle.table_core.specs.declared.value.ProtoId.{ProtoId}
use Rattle.lua_heap.specs.declared.world.World.{World as Memory}
use Rattle.lua_heap.specs.Plain.{plain}
use Rattle.move_laws.specs.Memory.{IsSafe, IsSound, Leads, Makes}
use Rattle.move_laws.proofs.Rows.{safe_after}
use Rattle.move_laws.proofs.Sounds.{sound_top}
use Rattle.machine_objects.specs.Objects.{CanMake, HasInner, IsInner}
use Rattle.machine_objects.specs.Opening.{MayOpen, Opens, upvalues_at}
use Rattle.machine_objects.proofs.Opened.{closes_over, has_inner, upvalues_kept, may_go_on, can_make}

-- what follows the function
abbrev pub keeps_it : ℕ → ℕ → Text
keeps_it to f = to_register to (read f)

abbrev pub makes_it : (inner to : ℕ) → Text
makes_it inner to = quick (make_function inner) (keeps_it to)

module _ (W : Memory) (inner to : ℕ) (p : Place) (s : IsSound W) (e : place_of (plain W 0) ≡ Some p) (safe : IsSafe (expand (closes_over p.function.code inner (keeps_it to))) [] W) where
  pub inner_there : HasInner W inner
  inner_there = record { place = p; is = e; checked = (sound_top p s e).checked; there = has_inner W inner (keeps_it to) p e safe }

  module _ (id : ProtoId) (i : IsInner W inner id) where
    abbrev pub may_begin : MayOpen W (upvalues_at W id)
    may_begin = record {
      place = p;
      is = e;
      depth = (sound_top p s e).depth;
      more = makes_it inner to;
      safe = subst (λ us. IsSafe (expand (opens us (makes_it inner to))) [] W) (sym (upvalues_kept W inner id p e i)) safe;
    }

    module _ (V : Memory) (o : Opens W V (upvalues_at W id) []) where
      pub safe_opened : IsSafe (expand (makes_it inner to)) [] V
      safe_opened = (may_go_on may_begin o).safe

      pub makes_there : CanMake V inner
      makes_there = can_make V inner (λ n _. expand (keeps_it to n)) p (o.stays p e) (sound_top p s e).checked safe_opened

      module _ (U : Memory) (n : ℕ) (m : (env : List Value) → Makes V U (outside (make_function inner)) env (object a_function n ∷ []) true) where
        pub safe_made : IsSafe (expand (to_register to (read 0))) (object a_function n ∷ []) U
        safe_made = safe_after (λ n _. expand (keeps_it to n)) safe_opened (m [])

pub leads_opened : (W V U : Memory) (inner to : ℕ) (id : ProtoId) (ending : Ending) (p : Place) → place_of (plain W 0) ≡ Some p → IsInner W inner id → Opens W V (upvalues_at W id) []
    → Leads (expand (makes_it inner to)) [] V U ending → Leads (expand (closes_over p.function.code inner (keeps_it to))) [] W U ending
leads_opened W V U inner to id ending p e i o l = record {
  is = λ fuel. ap (λ us. run (expand (opens us (makes_it inner to))) [] (plain W fuel)) (sym (upvalues_kept W inner id p e i)) ∙ o.goes (makes_it inner to) fuel ∙ l.is fuel;
}
