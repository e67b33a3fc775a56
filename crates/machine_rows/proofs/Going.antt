-- Where a frame goes on.
use Rattle.std.proofs.Common.{◌≡◌, ◌≢◌, ℕ, ◌+◌, List, [], ◌∷◌, Option, Some, None, refl, ap, sym, subst, ◌∙◌, Bool, true, false}
use Rattle.std.specs.Prelude.{IsSome, pos, cond}
use Rattle.int_core.specs.Value.{Value, same_truth}
use Rattle.machine_core.specs.World.{Place, place_of}
use Rattle.machine_core.specs.Text.{Arg, read, write_register, Text, go_by, make_table, quick, trap}
use Rattle.machine_core.specs.InstructionRows.{next, skip, tested, then, with_extra}
use Rattle.code_core.specs.Prototype.{Prototype}
use Rattle.code_core.specs.Check.{extra_at}
use Rattle.machine_core.specs.FrameRows.{expand}
use Rattle.machine_core.specs.Moves.{outside, place_from, go, Row, stop, run}
use Rattle.lua_heap.specs.declared.world.World.{World as Memory}
use Rattle.lua_heap.specs.Plain.{plain}
use Rattle.move_laws.specs.Memory.{CanDo, Leads, IsSafe, IsSound, Makes, StandsAt}
use Rattle.move_laws.proofs.Rows.{first, ended, can_go, safe_after}
use Rattle.move_laws.proofs.Sounds.{sound_top}
use Rattle.machine_moves.specs.Moves.{CanGo, Goes}
use Rattle.machine_rows.specs.Rows.{HasFunction}

pub ahead : (b : Bool) → cond b skip next ≡ go_by (pos (cond b 2 1))
ahead true = refl
ahead false = refl

from_place : {W : Memory} {pc to : ℕ} (k : ℕ) (s : StandsAt W pc) → to ≡ pc + k → place_from s.place.top.own.pc (pos k) ≡ Some to
from_place k s e = ap (λ n. place_from n (pos k)) s.at ∙ ap (λ n. Some n) (sym e)

pub goes_on : {W V : Memory} {pc to : ℕ} (k : ℕ) (s : StandsAt W pc) → to ≡ pc + k → Goes W V to → (env : List Value) → Leads (expand (go_by (pos k))) env W V go
goes_on k s e g env = first (λ _ _. stop go) (g.makes s.place s.is (pos k) (from_place k s e) env) ended

pub may_go : {W : Memory} {pc to : ℕ} {env : List Value} (k : ℕ) (s : StandsAt W pc) → to ≡ pc + k → IsSafe (expand (go_by (pos k))) env W → CanGo W to
may_go {W} {pc} {to} {env} k s e h = record { place = s.place; is = s.is; there = can_go (pos k) (λ _ _. stop go) to s.place h s.is (from_place k s e) }

-- a row that comes to another one is as safe
pub safe_as : {W : Memory} {r q : Row} {env more : List Value} → IsSafe r env W → ((fuel : ℕ) → run r env (plain W fuel) ≡ run q more (plain W fuel)) → IsSafe q more W
safe_as s h = record { never = λ fuel e. s.never fuel (h fuel ∙ e) }

-- a register that may be written gets any value
pub any_value : {W : Memory} {r : ℕ} {x y : Arg} → CanDo W (write_register r x) → CanDo W (write_register r y)
any_value d = record { place = d.place; is = d.is; fits = d.fits }

-- how far a test goes on

abbrev pub skipped : Bool → Bool → ℕ
skipped b wanted = cond (same_truth b wanted) 1 2

pub tests : (b wanted : Bool) → tested b wanted ≡ go_by (pos (skipped b wanted))
tests true true = refl
tests true false = refl
tests false true = refl
tests false false = refl

-- the word behind is there where a safe row asks for it
pub extra_there : {W : Memory} {env : List Value} (p : Prototype) (pc : ℕ) (k : ℕ → Text) → IsSafe (expand (with_extra p pc k)) env W → (ax : ℕ) × (with_extra p pc k ≡ k ax)
extra_there {W} {env} p pc k s = by (extra_at p pc) refl
  where
    by : (o : Option ℕ) → extra_at p pc ≡ o → (ax : ℕ) × (with_extra p pc k ≡ k ax)
    by (Some ax) e = (ax, ap (λ o. elim o as (λ _. Text) [ None ↦ trap | Some ax ↦ k ax ]) e)
    by None e = absurd (s.never 0 (ap (λ o. run (expand (elim o as (λ _. Text) [ None ↦ trap | Some ax ↦ k ax ])) env (plain W 0)) e))

-- a table was made for the register that the instruction names
pub safe_made : {W V : Memory} {v : Value} (p : Prototype) (pc to : ℕ) → IsSafe (expand (with_extra p pc (λ _. quick make_table (λ t. then (write_register to (read t)) skip)))) [] W → Makes W V (outside make_table) [] (v ∷ []) true
    → IsSafe (expand (then (write_register to (read 0)) skip)) (v ∷ []) V
safe_made {W} p pc to s m =
    let k : ℕ → Text = λ _. quick make_table (λ t. then (write_register to (read t)) skip) in
    safe_after (λ n _. expand (then (write_register to (read n)) skip)) (subst (λ t. IsSafe (expand t) [] W) (extra_there p pc k s).1 s) m

pub has_extra : {W : Memory} {env : List Value} (p : Prototype) (pc : ℕ) (k : ℕ → Text) → IsSafe (expand (with_extra p pc k)) env W → IsSome (extra_at p pc)
has_extra {W} {env} p pc k s = by (extra_at p pc) refl
  where
    by : (o : Option ℕ) → extra_at p pc ≡ o → IsSome o
    by (Some ax) e = refl
    by None e = absurd (s.never 0 (ap (λ o. run (expand (elim o as (λ _. Text) [ None ↦ trap | Some ax ↦ k ax ])) env (plain W 0)) e))

pub extra_is : (p : Prototype) (pc ax : ℕ) (k : ℕ → Text) → extra_at p pc ≡ Some ax → with_extra p pc k ≡ k ax
extra_is p pc ax k e = ap (λ o. elim o as (λ _. Text) [ None ↦ trap | Some ax ↦ k ax ]) e

-- the function on top of a sound world
pub function_of : {W : Memory} (p : Place) → IsSound W → place_of (plain W 0) ≡ Some p → HasFunction W
function_of p s e = record { codes = s.order.codes; listed = s.order.listed; frame = record { place = p; is = e; checked = (sound_top p s e).checked } }

-- a truth that is the wanted one, and one that is not
pub truth_is : (b wanted : Bool) (x y : Text) → b ≡ wanted → cond (same_truth b wanted) x y ≡ x
truth_is true true x y e = refl
truth_is true false x y e = absurd (cc)
truth_is false true x y e = absurd (cc)
truth_is false false x y e = refl

pub truth_is_not : (b wanted : Bool) (x y : Text) → b ≢ wanted → cond (same_truth b wanted) x y ≡ y
truth_is_not true true x y n = absurd (n refl)
truth_is_not true false x y n = refl
truth_is_not false true x y n = refl
truth_is_not false false x y n = absurd (n refl)
