-- What becomes of the value of an operation.
use Rattle.std.proofs.Common.{◌≡◌, ℕ, ◌+◌, List, [], ◌++◌, Option, Some, None, refl, ap, sym, subst, ◌∙◌, Bool}
use Rattle.std.specs.Prelude.{pos}
use Rattle.code_core.specs.declared.instruction.Instruction.{Instruction}
use Rattle.code_core.specs.Check.{in_front}
use Rattle.code_core.specs.Instruction.{a_of}
use Rattle.code_core.specs.Prototype.{Prototype}
use Rattle.int_core.specs.Value.{Value, holds, shape}
use Rattle.machine_core.specs.World.{Place, place_of}
use Rattle.machine_core.specs.Text.{Arg, arg, read, see, go_by, Text, trap}
use Rattle.machine_core.specs.InstructionRows.{tested, to_register, to_register_before}
use Rattle.machine_core.specs.FrameRows.{When, expand, expand_by}
use Rattle.machine_core.specs.Moves.{on_own, go, run}
use Rattle.machine_sound.proofs.Lists.{some_is}
use Rattle.table_core.specs.declared.value.Value.{Value as Kept}
use Rattle.lua_heap.specs.declared.world.World.{World as Memory}
use Rattle.lua_heap.specs.Plain.{plain}
use Rattle.lua_heap.specs.Reading.{value}
use Rattle.instruction_forms.specs.declared.form.After.{After}
use Rattle.instruction_forms.specs.declared.form.After.TheVariants.{ToRegister, ToRegisterBefore, Next as NoValue, Tests}
use Rattle.instruction_forms.specs.Forms.{follows}
use Rattle.move_laws.specs.Memory.{IsSafe, Leads, Makes}
use Rattle.move_laws.proofs.Running.{own_read}
use Rattle.move_laws.proofs.Rows.{first, safe_after}
use Rattle.machine_rows.proofs.Going.{skipped, tests}
use Rattle.machine_operations.specs.Following.{Follows, HasFront, IsFront, Keeps, MayFollow, MayGo, MayKeep}

-- to a register

pub may_keep : {W : Memory} {pc r : ℕ} {v : Kept} → MayFollow W pc (ToRegister r) v → MayKeep W r v
may_keep h = record { env = h.env; named = h.named; safe = h.safe }

pub keeps_follow : {old new : Memory} {pc r : ℕ} {v : Kept} → Keeps old new r v → Follows old new pc (ToRegister r) v
keeps_follow k = record { leads = λ place is env named. k.leads env named }

-- to that of the instruction in front

pub has_front : {W : Memory} {pc : ℕ} {v : Kept} → MayFollow W pc ToRegisterBefore v → HasFront W pc
has_front {W} {pc} h = by (in_front h.place.function.code pc) refl
  where
    by : (o : Option Instruction) → in_front h.place.function.code pc ≡ o → HasFront W pc
    by (Some w) e = record { place = h.place; is = h.is; word = w; there = e }
    by None e = absurd (h.safe.never 0 (ap (λ o. run (expand (elim o as (λ _. Text) [ None ↦ trap | Some w ↦ to_register (a_of w) (read 0) ])) h.env (plain W 0)) e))

front_is : (p : Prototype) (pc r : ℕ) (w : Instruction) → in_front p pc ≡ Some w → r ≡ a_of w → to_register_before p pc ≡ to_register r (read 0)
front_is p pc r w e n = ap (λ o. elim o as (λ _. Text) [ None ↦ trap | Some w ↦ to_register (a_of w) (read 0) ]) e ∙ ap (λ r. to_register r (read 0)) (sym n)

pub may_keep_before : {W : Memory} {pc r : ℕ} {v : Kept} → MayFollow W pc ToRegisterBefore v → IsFront W pc r → MayKeep W r v
may_keep_before {W} {pc} {r} h f =
    let same : f.place ≡ h.place = some_is f.is h.is in
    let t = front_is h.place.function.code pc r f.word (ap (λ (p : Place). in_front p.function.code pc) (sym same) ∙ f.there) f.register_is in
    record { env = h.env; named = h.named; safe = subst (λ t. IsSafe (expand t) h.env W) t h.safe }

pub keeps_before : {old new : Memory} {pc r : ℕ} {v : Kept} → IsFront old pc r → Keeps old new r v → Follows old new pc ToRegisterBefore v
keeps_before {old} {new} {pc} {r} f k = record {
  leads = λ place is env named.
      let same : f.place ≡ place = some_is f.is is in
      let t = front_is place.function.code pc r f.word (ap (λ (p : Place). in_front p.function.code pc) (sym same) ∙ f.there) f.register_is in
      subst (λ t. Leads (expand t) env old new go) (sym t) (k.leads env named);
}

-- there is none

pub may_go_on : {W : Memory} {pc : ℕ} {v : Kept} → MayFollow W pc NoValue v → MayGo W 1
may_go_on h = record { env = h.env; safe = h.safe }

pub goes_follow : {old new : Memory} {pc : ℕ} {v : Kept} → ((env : List Value) → Leads (expand (go_by (pos 1))) env old new go) → Follows old new pc NoValue v
goes_follow l = record { leads = λ place is env named. l env }

-- a test

sees : (W : Memory) (place : Place) (x : Arg) (env : List Value) → place_of (plain W 0) ≡ Some place → Makes W W (on_own (see x)) env [] (shape (arg env x))
sees W place x env e = record { is = λ fuel. own_read (plain W fuel) place (see x) env e refl refl refl }

abbrev truth_of : Memory → Kept → Bool
truth_of W v = holds (shape (value W.strings v))

-- how far it goes
pub goes_ahead : (W : Memory) (v : Kept) (wanted truth : Bool) (ahead : ℕ) → truth ≡ truth_of W v → ahead ≡ skipped truth wanted → tested (truth_of W v) wanted ≡ go_by (pos ahead)
goes_ahead W v wanted truth ahead t a = tests (truth_of W v) wanted ∙ ap (λ n. go_by (pos n)) (ap (λ b. skipped b wanted) (sym t) ∙ sym a)

pub may_test : {W : Memory} {pc ahead : ℕ} {v : Kept} {wanted truth : Bool} → MayFollow W pc (Tests wanted) v → truth ≡ truth_of W v → ahead ≡ skipped truth wanted → MayGo W ahead
may_test {W} {pc} {ahead} {v} {wanted} {truth} h t a =
    let s = safe_after (λ _ s. expand (tested (holds s) wanted)) h.safe (sees W h.place (read 0) h.env h.is) in
    let u = subst (λ x. IsSafe (expand (tested (holds (shape x)) wanted)) (h.env ++ []) W) h.named s in
    record { env = h.env ++ []; safe = subst (λ t. IsSafe (expand t) (h.env ++ []) W) (goes_ahead W v wanted truth ahead t a) u }

pub test_follows : {old new : Memory} {pc ahead : ℕ} {v : Kept} {wanted truth : Bool} → truth ≡ truth_of old v → ahead ≡ skipped truth wanted
    → ((env : List Value) → Leads (expand (go_by (pos ahead))) env old new go) → Follows old new pc (Tests wanted) v
test_follows {old} {new} {pc} {ahead} {v} {wanted} {truth} t a l = record {
  leads = λ place is env named.
      let k : Leads (expand (tested (truth_of old v) wanted)) (env ++ []) old new go = subst (λ t. Leads (expand t) (env ++ []) old new go) (sym (goes_ahead old v wanted truth ahead t a)) (l (env ++ [])) in
      first (λ _ s. expand (tested (holds s) wanted)) (sees old place (read 0) env is)
      (subst (λ x. Leads (expand (tested (holds (shape x)) wanted)) (env ++ []) old new go) (sym named) k);
}

-- what follows calls nothing, so it is the same row whenever it is done
pub follows_by : (when : When) (p : Prototype) (pc : ℕ) (after : After) → expand_by when (follows p pc after) ≡ expand (follows p pc after)
follows_by when p pc (ToRegister r) = refl
follows_by when p pc NoValue = refl
follows_by when p pc (Tests wanted) = refl
follows_by when p pc ToRegisterBefore = by (in_front p pc)
  where
    by : (o : Option Instruction) → expand_by when (elim o as (λ _. Text) [ None ↦ trap | Some w ↦ to_register (a_of w) (read 0) ]) ≡ expand (elim o as (λ _. Text) [ None ↦ trap | Some w ↦ to_register (a_of w) (read 0) ])
    by None = refl
    by (Some w) = refl
