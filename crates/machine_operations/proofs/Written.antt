-- A register of the frame on top that is written.
use Rattle.std.proofs.Common.{◌≡◌, ℕ, List, [], ◌∷◌, length, Option, Some, None, refl, ap, sym, subst, ◌∙◌, append-nil, arith, Bool, true, false}
use Rattle.std.specs.Prelude.{cond}
use Rattle.int_core.specs.Value.{Value, Shape, is_known, nil, write}
use Rattle.machine_core.specs.World.{LuaFrame, lua, World, Place, place_of, put_top}
use Rattle.machine_core.specs.Text.{Arg, arg, read, written, Own, write_register, reads, tells, fits}
use Rattle.machine_core.specs.Moves.{blamed, made, move, on_own, do_own, with_own}
use Rattle.machine_sound.proofs.Lists.{bind_at, some_is}
use Rattle.machine_sound.proofs.Values.{length_write, lt_true}
use Rattle.table_core.specs.declared.value.Value.{Value as Kept}
use Rattle.lua_heap.specs.declared.world.World.{World as Memory}
use Rattle.lua_heap.specs.Plain.{plain}
use Rattle.lua_heap.specs.Reading.{value}
use Rattle.move_laws.specs.Memory.{CanDo, IsSafe, Leads, Makes, ReadsSame}
use Rattle.move_laws.proofs.Rows.{first, safe_after}
use Rattle.move_laws.proofs.Running.{place_put, with_top}
use Rattle.machine_errors.specs.Raising.{CanLeave}
use Rattle.machine_errors.proofs.Leaving.{world_made}
use Rattle.machine_calls.specs.declared.preparing.Prepared.TheVariants.{Copied}
use Rattle.machine_calls.proofs.Blamed.{blamed_own}
use Rattle.machine_operations.specs.Copying.{CanCopy, Copies}

-- the world that a move of the frame on top makes
own_world : (m : Own) (env : List Value) (W V : World) (vs : List Value) (t : Shape) → move (on_own m) env W ≡ made V vs t → (p : Place) → place_of W ≡ Some p → with_own W p p.top.wait (m ∷ []) env ≡ V
own_world m env W V vs t e p is = by (fits m p.function.code p.top.own) (sym (bind_at (do_own m env W) (place_of W) p is) ∙ e)
  where
    by : (b : Bool) → cond b (made (with_own W p p.top.wait (m ∷ []) env) (reads m p.function.code env p.top.own) (tells m p.function.code env p.top.own)) None ≡ made V vs t
        → with_own W p p.top.wait (m ∷ []) env ≡ V
    by true q = world_made q
    by false q = absurd (cc)

abbrev written_top : Place → ℕ → Value → LuaFrame
written_top at r v = record at.top { own = record at.top.own { registers = write r v at.top.own.registers } }

written_is : (V : World) (at : Place) (r : ℕ) (x : Arg) (env : List Value) → with_own V at at.top.wait (write_register r x ∷ []) env ≡ put_top V at.stack (lua (written_top at r (arg env x)))
unfolding with_own
written_is V at r x env = refl

pub can_write : {W : Memory} {r : ℕ} → CanLeave W → CanCopy W (Some r) → CanDo W (write_register r (written nil))
can_write {W} {r} h k = record { place = h.place; is = h.is; fits = lt_true r (length h.place.top.own.registers) (k h.place h.is) }

module _ (old new : Memory) (r : ℕ) (v : Kept) (makes : (env : List Value) (x : Arg) → arg env x ≡ value old.strings v → Makes old new (on_own (write_register r x)) env [] (is_known nil)) where
  world_is : (at : Place) (fuel : ℕ) → place_of (plain old 0) ≡ Some at → with_own (plain old fuel) at at.top.wait (write_register r (read 0) ∷ []) (value old.strings v ∷ []) ≡ plain new fuel
  world_is at fuel is =
      own_world (write_register r (read 0)) (value old.strings v ∷ []) (plain old fuel) (plain new fuel) [] (is_known nil) ((makes (value old.strings v ∷ []) (read 0) refl).is fuel) at is

  place_is : (at : Place) → place_of (plain old 0) ≡ Some at → place_of (plain new 0) ≡ Some (with_top at (written_top at r (value old.strings v)))
  place_is at is =
      ap place_of (sym (world_is at 0 is) ∙ written_is (plain old 0) at r (read 0) (value old.strings v ∷ []))
      ∙ place_put (plain old 0) at (written_top at r (value old.strings v)) is refl

  pub written_whole : CanLeave old → CanLeave new
  written_whole h =
      let at = h.place in
      let t = written_top at r (value old.strings v) in
      record {
        place = with_top at t;
        is = place_is at h.is;
        checked = h.checked;
        room = (let k = length_write r (value old.strings v) at.top.own.registers in let l = h.room in omega (arith, k, l));
      }

  pub written_copies : CanLeave old → Copies old new (Some r) v
  written_copies h = record {
    leads = λ env x n row last ending l. first (λ _ _. row) (makes env x n) (subst (λ env. Leads row env new last ending) (sym (append-nil env)) l);
    safe = λ env x n row s. subst (λ env. IsSafe row env new) (append-nil env) (safe_after (λ _ _. row) s (makes env x n));
    function = λ was is e f. ap (λ (p : Place). p.function) (some_is f (place_is was e));
    blames = λ fuel text.
        ap (λ V. blamed V text) (sym (world_is h.place fuel h.is))
        ∙ blamed_own (plain old fuel) h.place h.place.top.wait (read 0) (Copied r v) (value old.strings v ∷ []) text h.is;
  }

pub none_copied : {W : Memory} {v : Kept} → Copies W W None v
none_copied = record {
  leads = λ env x n row last ending l. l;
  safe = λ env x n row s. s;
  function = λ was is e f. ap (λ (p : Place). p.function) (some_is f e);
  blames = λ fuel text. refl;
}

-- where a world reads the same

pub copy_same : {old new : Memory} (also : Option ℕ) → ReadsSame old new → CanCopy old also → CanCopy new also
copy_same None r h = tt
copy_same (Some register) r h = λ place is. h place (sym (ap place_of (r.is 0)) ∙ is)

pub leave_same : {old new : Memory} → ReadsSame old new → CanLeave old → CanLeave new
leave_same r h = record { place = h.place; is = ap place_of (r.is 0) ∙ h.is; checked = h.checked; room = h.room }
