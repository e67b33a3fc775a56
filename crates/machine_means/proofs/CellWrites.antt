-- Coroutines by their numbers: one of them is written, one gives way, one goes on.
use Rattle.std.proofs.Common.{ℕ, ◌<◌, ◌≡◌, ⊎_elim, List, [], length, Option, Some, None, refl, sym, ap, subst, ◌∙◌, arith, Bool, false}
use Rattle.std.specs.Prelude.{slice_get, slice_set}
use Rattle.std.proofs.lemmas.Bool.{cases_eq}
use Rattle.std.proofs.lemmas.Option.{slice_get_within}
use Rattle.int_core.specs.Value.{Value, bind}
use Rattle.machine_core.specs.World as machine
use Rattle.machine_core.specs.World.{Cell, closed, open_at, LuaFrame, lua, in_progress, frames_of, lua_frame, with_frames, write_in_frame, write_in_coroutine}
use Rattle.lua_meaning.specs.World as talk
use Rattle.machine_core.specs.Talk.{State}
use Rattle.list_laws.proofs.Ends.{upward}
use Rattle.list_laws.proofs.Items.{get_set_same, get_set_other}
use Rattle.list_laws.specs.Held.{Held}
use Rattle.machine_means.specs.Joined.{Holds}
use Rattle.machine_means.proofs.Held.{reverse_is}
use Rattle.machine_means.proofs.FrameNumbers.{value_in, put_frame, length_put, set_frame}
use Rattle.machine_means.specs.Joined.{TalkFrame, Stacks, CoroutinePair, AllThree, CoroutinesPair, HoldsOf, CellsPair}
use Rattle.machine_means.proofs.FrameWrites.{Apart, below_write, one_owner, apart_in, stack_values}

-- a frame of a stack that waits is written
pub stack_write : (lax : Bool) (fs : List machine.Function) (vs : List Value) (frames : List machine.Frame) (ts : List TalkFrame) (hs : List Held) (f r c : ℕ) (v u : Value) (m : machine.Frame)
    → slice_get frames f ≡ Some m → value_in (Some m) r ≡ Some u → c < length vs → Apart hs → Holds f r c hs → Stacks lax fs vs frames ts hs → Stacks lax fs (slice_set vs c v) (slice_set frames f (write_in_frame r v m)) ts hs
stack_write lax fs vs frames ts hs f r c v u m e w l a n s =
    let up : frames ≡ upward s.ms = s.listed ∙ reverse_is s.ms in
    let e' : slice_get (upward s.ms) f ≡ Some m = ap (λ xs. slice_get xs f) (sym up) ∙ e in record {
      ms = put_frame f r v s.ms;
      listed = ap (λ xs. slice_set xs f (write_in_frame r v m)) up ∙ set_frame f r v s.ms m e' ∙ sym (reverse_is (put_frame f r v s.ms));
      below = below_write lax fs vs s.ms ts hs f r c v u (ap (λ o. value_in o r) e' ∙ w) l a n s.below;
      depth = (let i = length_put f r v s.ms in let j = s.depth in omega (arith, i, j));
    }

-- what is there at a place
pub all3_first : {A B C : Type 0} (R : A → B → C → Type 0) (x : A) (p : Option A) (q : Option B) (s : Option C) → p ≡ Some x → AllThree R p q s → (y : B) × (z : C) × (q ≡ Some y) × (s ≡ Some z) × R x y z
all3_first R x (Some a) (Some b) (Some c) e k = (b, c, refl, refl, subst (λ a. R a b c) (let d : a ≡ x = cc in d) k)
all3_first R x (Some a) (Some b) None e k = absurd k
all3_first R x (Some a) None (Some c) e k = absurd k
all3_first R x (Some a) None None e k = absurd k
all3_first R x None q s e k = absurd (cc)

pub all3_at : {A B C : Type 0} (R : A → B → C → Type 0) (p : Option A) (q : Option B) (s : Option C) (x : A) (y : B) (z : C) → p ≡ Some x → q ≡ Some y → s ≡ Some z → R x y z → AllThree R p q s
all3_at R p q s x y z e f g k = subst (λ p. AllThree R p q s) (sym e) (subst (λ q. AllThree R (Some x) q s) (sym f) (subst (λ s. AllThree R (Some x) (Some y) s) (sym g) k))

pub all3_map : {A B C : Type 0} (R S : A → B → C → Type 0) (p : Option A) (q : Option B) (s : Option C) → ((x : A) (y : B) (z : C) → p ≡ Some x → s ≡ Some z → R x y z → S x y z) → AllThree R p q s → AllThree S p q s
all3_map R S (Some a) (Some b) (Some c) h k = h a b c refl refl k
all3_map R S None None None h k = tt
all3_map R S (Some a) (Some b) None h k = absurd k
all3_map R S (Some a) None (Some c) h k = absurd k
all3_map R S (Some a) None None h k = absurd k
all3_map R S None (Some b) (Some c) h k = absurd k
all3_map R S None (Some b) None h k = absurd k
all3_map R S None None (Some c) h k = absurd k

module _ (fs : List machine.Function) where
  abbrev pub Run : Type 1
  Run = List machine.Frame → List Held → Type 0

  -- values change that this coroutine does not hold
  pub co_values : (vs : List Value) (c : ℕ) (v : Value) (run run' : List machine.Frame → List Held → Type 0) (x : machine.Coroutine) (y : talk.Coroutine State) (hs : List Held) → ((f q : ℕ) → Holds f q c hs → ⊥)
      → ((frames : List machine.Frame) → run frames hs → run' frames hs) → CoroutinePair fs vs run x y hs → CoroutinePair fs (slice_set vs c v) run' x y hs
  co_values vs c v run run' (machine.fresh a) (talk.fresh b) hs n g k = k
  co_values vs c v run run' (machine.suspended frames) (talk.suspended ts) hs n g k = stack_values fs vs c v false frames ts hs n k
  co_values vs c v run run' (in_progress frames) talk.running hs n g k = g frames k
  co_values vs c v run run' (machine.normal frames) (talk.normal ts) hs n g k = stack_values fs vs c v false frames ts hs n k
  co_values vs c v run run' machine.dead talk.dead hs n g k = k
  co_values vs c v run run' (machine.failed e p) (talk.failed d q) hs n g k = k
  co_values vs c v run run' _ _ hs n g k = absurd k

  abbrev pub no_frames : Held → Type 0
  no_frames h = ⊥

  nothing_held : (hs : List Held) (f r c : ℕ) → hs ≡ [] → Holds f r c hs → ⊥
  nothing_held hs f r c e n = subst (λ hs. Holds f r c hs) e n

  -- a register of a frame is written where `put` makes a coroutine of the frames
  write_by : (vs : List Value) (f r : ℕ) (v u : Value) (run : List machine.Frame → List Held → Type 0) (put : List machine.Frame → machine.Coroutine) (y : talk.Coroutine State) (hs : List Held) (frames : List machine.Frame)
      → ((m : machine.Frame) → slice_get frames f ≡ Some m → value_in (Some m) r ≡ Some u → CoroutinePair fs vs run (put (slice_set frames f (write_in_frame r v m))) y hs)
      → (o : Option machine.Frame) → slice_get frames f ≡ o → bind (bind o lua_frame) (λ fr. slice_get fr.own.registers r) ≡ Some u
      → CoroutinePair fs vs run (elim (bind o (λ m. Some (slice_set frames f (write_in_frame r v m)))) [ None ↦ put frames | Some gs ↦ put gs ]) y hs
  write_by vs f r v u run put y hs frames made None e w = absurd (cc)
  write_by vs f r v u run put y hs frames made (Some m) e w = made m e w

  -- a register of one of its frames is written
  pub co_write : (vs : List Value) (f r c : ℕ) (v u : Value) (run run' : List machine.Frame → List Held → Type 0) (x : machine.Coroutine) (y : talk.Coroutine State) (hs : List Held)
      → bind (bind (frames_of x) (λ frames. bind (slice_get frames f) lua_frame)) (λ fr. slice_get fr.own.registers r) ≡ Some u → c < length vs → Apart hs → Holds f r c hs
      → ((frames : List machine.Frame) (m : machine.Frame) → slice_get frames f ≡ Some m → value_in (Some m) r ≡ Some u → run frames hs → run' (slice_set frames f (write_in_frame r v m)) hs)
      → CoroutinePair fs vs run x y hs → CoroutinePair fs (slice_set vs c v) run' (write_in_coroutine f r v x) y hs
  co_write vs f r c v u run run' (machine.suspended frames) (talk.suspended ts) hs w l a n g k =
      write_by (slice_set vs c v) f r v u run' machine.suspended (talk.suspended ts) hs frames (λ m e w. stack_write false fs vs frames ts hs f r c v u m e w l a n k) (slice_get frames f) refl w
  co_write vs f r c v u run run' (machine.normal frames) (talk.normal ts) hs w l a n g k =
      write_by (slice_set vs c v) f r v u run' machine.normal (talk.normal ts) hs frames (λ m e w. stack_write false fs vs frames ts hs f r c v u m e w l a n k) (slice_get frames f) refl w
  co_write vs f r c v u run run' (in_progress frames) talk.running hs w l a n g k = write_by (slice_set vs c v) f r v u run' in_progress talk.running hs frames (λ m e w. g frames m e w k) (slice_get frames f) refl w
  co_write vs f r c v u run run' (machine.fresh a) (talk.fresh b) hs w l a' n g k = absurd (nothing_held hs f r c k.1 n)
  co_write vs f r c v u run run' machine.dead talk.dead hs w l a n g k = absurd (nothing_held hs f r c k n)
  co_write vs f r c v u run run' (machine.failed e p) (talk.failed d q) hs w l a n g k = absurd (nothing_held hs f r c k.2 n)
  co_write vs f r c v u run run' _ _ hs w l a n g k = absurd k

  -- whoever runs writes the cell c, which is open in the coroutine i
  module _ (vs : List Value) (ws : List Cell) (cs : List machine.Coroutine) (ds : List (talk.Coroutine State)) (hss : List (List Held)) (k : CellsPair ws vs hss) (run run' : List machine.Frame → List Held → Type 0)
      (c i f r : ℕ) (v u : Value) (e : slice_get ws c ≡ Some (open_at i f r)) (x : machine.Coroutine) (there : slice_get cs i ≡ Some x)
      (reads : bind (bind (frames_of x) (λ frames. bind (slice_get frames f) lua_frame)) (λ fr. slice_get fr.own.registers r) ≡ Some u)
      (stays : (frames : List machine.Frame) (hs : List Held) → ((f q : ℕ) → Holds f q c hs → ⊥) → run frames hs → run' frames hs)
      (moves : (frames : List machine.Frame) (hs : List Held) (m : machine.Frame) → Apart hs → Holds f r c hs → slice_get frames f ≡ Some m → value_in (Some m) r ≡ Some u → run frames hs → run' (slice_set frames f (write_in_frame r v m)) hs) where
    pub cos_write : CoroutinesPair fs vs run cs ds hss → CoroutinesPair fs (slice_set vs c v) run' (slice_set cs i (write_in_coroutine f r v x)) ds hss
    cos_write q j = ⊎_elim same other (cases_eq i j)
      where
        l : c < length vs
        l = let a = slice_get_within ws c (open_at i f r) e in let b = k.size in omega (arith, a, b)

        same : i ≡ j → AllThree (CoroutinePair fs (slice_set vs c v) run') (slice_get (slice_set cs i (write_in_coroutine f r v x)) j) (slice_get ds j) (slice_get hss j)
        same d =
            let there' : slice_get cs j ≡ Some x = ap (slice_get cs) (sym d) ∙ there in
            let p = all3_first (CoroutinePair fs vs run) x (slice_get cs j) (slice_get ds j) (slice_get hss j) there' (q j) in
            let at_j : slice_get hss j ≡ Some p.1 = p.3 in
            let h : Holds f r c p.1 = subst (λ o. HoldsOf o f r c) (ap (slice_get hss) d ∙ at_j) (k.opened c i f r e) in
            let apart = apart_in ws vs hss k j p.1 at_j in
            all3_at (CoroutinePair fs (slice_set vs c v) run') (slice_get (slice_set cs i (write_in_coroutine f r v x)) j) (slice_get ds j) (slice_get hss j) (write_in_coroutine f r v x) p.0 p.1
            (ap (slice_get (slice_set cs i (write_in_coroutine f r v x))) (sym d) ∙ get_set_same cs i x (write_in_coroutine f r v x) there) p.2 at_j
            (co_write vs f r c v u run run' x p.0 p.1 reads l apart h (λ frames m. moves frames p.1 m apart h) p.4)

        other : (i ≡ j → ⊥) → AllThree (CoroutinePair fs (slice_set vs c v) run') (slice_get (slice_set cs i (write_in_coroutine f r v x)) j) (slice_get ds j) (slice_get hss j)
        other n =
            subst (λ o. AllThree (CoroutinePair fs (slice_set vs c v) run') o (slice_get ds j) (slice_get hss j)) (sym (get_set_other cs i j (write_in_coroutine f r v x) n))
            (all3_map (CoroutinePair fs vs run) (CoroutinePair fs (slice_set vs c v) run') (slice_get cs j) (slice_get ds j) (slice_get hss j)
            (λ y t hs _ at_j p.
            let no : (f q : ℕ) → Holds f q c hs → ⊥ = λ g q' m. n ((one_owner ws vs hss k i f r j g q' c (k.opened c i f r e) (subst (λ o. HoldsOf o g q' c) (sym at_j) m)).0) in
            co_values vs c v run run' y t hs no (λ frames. stays frames hs no) p)
            (q j))
