-- All cells of a coroutine are closed at once: where it fails, and where it is closed from another one.
use Rattle.std.proofs.Common.{ℕ, zero, suc, ◌+◌, ◌≡◌, ◌≢◌, ⊎_elim, List, [], ◌∷◌, length, Option, Some, None, refl, sym, ap, subst, ◌∙◌, arith, Bool, true, false}
use Rattle.std.specs.Prelude.{slice_get, slice_set, cond, nat_eq, nat_lt, not, ◌&&◌}
use Rattle.std.proofs.lemmas.Bool.{cases_eq}
use Rattle.int_core.specs.Value.{Value, nth}
use Rattle.machine_core.specs.World as machine
use Rattle.machine_core.specs.World.{Cell, closed, open_at, LuaFrame, lua, pcall, xpcall, handler, close_from}
use Rattle.machine_core.specs.Moves.{all_closed_from}
use Rattle.lua_meaning.specs.World as talk
use Rattle.lua_meaning.specs.World.{waiting, raising, talking, protected, handled_by, handling, shared_out}
use Rattle.list_laws.proofs.Ends.{upward}
use Rattle.list_laws.proofs.Tests.{eq_true, eq_refl, eq_not}
use Rattle.list_laws.proofs.Items.{get_set_same, get_set_other}
use Rattle.list_laws.specs.Held.{Held, Has}
use Rattle.machine_means.specs.Joined.{Holds}
use Rattle.machine_means.proofs.Held.{holds_less, reverse_is}
use Rattle.machine_means.proofs.FrameNumbers.{frame_top, frame_below}
use Rattle.machine_means.specs.Joined.{TalkFrame, Pair, under, Below, Stacks, HoldsOf, CellsPair}
use Rattle.machine_means.proofs.FrameWrites.{below_length}

abbrev pub closed_one : ℕ → ℕ → List Value → Cell → Cell
closed_one co n regs (closed v) = closed v
closed_one co n regs (open_at i f r) = cond (nat_eq co i && (nat_eq n f && not (nat_lt r 0))) (closed (nth regs r)) (open_at i f r)

abbrev pub mapped : {A B : Type 0} → (A → B) → Option A → Option B
mapped f None = None
mapped f (Some x) = Some (f x)

close_get : (co n : ℕ) (regs : List Value) (ws : List Cell) (c : ℕ) → slice_get (close_from co n 0 regs ws) c ≡ mapped (closed_one co n regs) (slice_get ws c)
close_get co n regs [] c = refl
close_get co n regs (closed v ∷ ws) zero = refl
close_get co n regs (open_at i f r ∷ ws) zero = refl
close_get co n regs (closed v ∷ ws) (suc c) = close_get co n regs ws c
close_get co n regs (open_at i f r ∷ ws) (suc c) = close_get co n regs ws c

close_length : (co n : ℕ) (regs : List Value) (ws : List Cell) → length (close_from co n 0 regs ws) ≡ length ws
close_length co n regs [] = refl
close_length co n regs (closed v ∷ ws) = ap suc (close_length co n regs ws)
close_length co n regs (open_at i f r ∷ ws) = ap suc (close_length co n regs ws)

abbrev pub shut_all : ℕ → ℕ → List machine.Frame → Cell → Cell
shut_all co n [] x = x
shut_all co n (lua f ∷ fs) x = shut_all co (suc n) fs (closed_one co n f.own.registers x)
shut_all co n (_ ∷ fs) x = shut_all co (suc n) fs x

mapped_twice : {A B C : Type 0} (f : B → C) (g : A → B) (o : Option A) → mapped f (mapped g o) ≡ mapped (λ x. f (g x)) o
mapped_twice f g None = refl
mapped_twice f g (Some x) = refl

mapped_id : {A : Type 0} (o : Option A) → o ≡ mapped (λ x. x) o
mapped_id None = refl
mapped_id (Some x) = refl

pub all_get : (co n : ℕ) (frames : List machine.Frame) (ws : List Cell) (c : ℕ) → slice_get (all_closed_from co n frames ws) c ≡ mapped (shut_all co n frames) (slice_get ws c)
all_get co n [] ws c = mapped_id (slice_get ws c)
all_get co n (lua f ∷ fs) ws c =
    all_get co (suc n) fs (close_from co n 0 f.own.registers ws) c ∙ ap (mapped (shut_all co (suc n) fs)) (close_get co n f.own.registers ws c)
    ∙ mapped_twice (shut_all co (suc n) fs) (closed_one co n f.own.registers) (slice_get ws c)
all_get co n (pcall ∷ fs) ws c = all_get co (suc n) fs ws c
all_get co n (xpcall h ∷ fs) ws c = all_get co (suc n) fs ws c
all_get co n (handler ∷ fs) ws c = all_get co (suc n) fs ws c
all_get co n (machine.closing e us ∷ fs) ws c = all_get co (suc n) fs ws c

all_length : (co n : ℕ) (frames : List machine.Frame) (ws : List Cell) → length (all_closed_from co n frames ws) ≡ length ws
all_length co n [] ws = refl
all_length co n (lua f ∷ fs) ws = all_length co (suc n) fs (close_from co n 0 f.own.registers ws) ∙ close_length co n f.own.registers ws
all_length co n (pcall ∷ fs) ws = all_length co (suc n) fs ws
all_length co n (xpcall h ∷ fs) ws = all_length co (suc n) fs ws
all_length co n (handler ∷ fs) ws = all_length co (suc n) fs ws
all_length co n (machine.closing e us ∷ fs) ws = all_length co (suc n) fs ws

shut_closed : (co n : ℕ) (frames : List machine.Frame) (v : Value) → shut_all co n frames (closed v) ≡ closed v
shut_closed co n [] v = refl
shut_closed co n (lua f ∷ fs) v = shut_closed co (suc n) fs v
shut_closed co n (pcall ∷ fs) v = shut_closed co (suc n) fs v
shut_closed co n (xpcall h ∷ fs) v = shut_closed co (suc n) fs v
shut_closed co n (handler ∷ fs) v = shut_closed co (suc n) fs v
shut_closed co n (machine.closing e us ∷ fs) v = shut_closed co (suc n) fs v

one_apart : (co i n f r : ℕ) (regs : List Value) → co ≢ i → closed_one co n regs (open_at i f r) ≡ open_at i f r
one_apart co i n f r regs d = ap (λ b. cond (b && (nat_eq n f && not (nat_lt r 0))) (closed (nth regs r)) (open_at i f r)) (eq_not co i d)

one_other : (co i n f r : ℕ) (regs : List Value) → n ≢ f → closed_one co n regs (open_at i f r) ≡ open_at i f r
one_other co i n f r regs d = ap (λ b. cond (nat_eq co i && (b && not (nat_lt r 0))) (closed (nth regs r)) (open_at i f r)) (eq_not n f d) ∙ no (nat_eq co i)
  where
    no : (b : Bool) → cond (b && false) (closed (nth regs r)) (open_at i f r) ≡ open_at i f r
    no true = refl
    no false = refl

one_own : (co n r : ℕ) (regs : List Value) → closed_one co n regs (open_at co n r) ≡ closed (nth regs r)
one_own co n r regs =
    ap (λ b. cond (b && (nat_eq n n && not (nat_lt r 0))) (closed (nth regs r)) (open_at co n r)) (eq_refl co)
    ∙ ap (λ b. cond (b && not (nat_lt r 0)) (closed (nth regs r)) (open_at co n r)) (eq_refl n)
    ∙ ap (λ b. cond (not b) (closed (nth regs r)) (open_at co n r)) (Rattle.list_laws.proofs.Tests.lt_not r 0 (λ l. omega (arith, l)))

shut_apart : (co i n f r : ℕ) (frames : List machine.Frame) → co ≢ i → shut_all co n frames (open_at i f r) ≡ open_at i f r
shut_apart co i n f r [] d = refl
shut_apart co i n f r (lua g ∷ fs) d = ap (shut_all co (suc n) fs) (one_apart co i n f r g.own.registers d) ∙ shut_apart co i (suc n) f r fs d
shut_apart co i n f r (pcall ∷ fs) d = shut_apart co i (suc n) f r fs d
shut_apart co i n f r (xpcall h ∷ fs) d = shut_apart co i (suc n) f r fs d
shut_apart co i n f r (handler ∷ fs) d = shut_apart co i (suc n) f r fs d
shut_apart co i n f r (machine.closing e us ∷ fs) d = shut_apart co i (suc n) f r fs d

shut_own : (co n d f r : ℕ) (frames : List machine.Frame) (fr : LuaFrame) → f ≡ n + d → slice_get frames d ≡ Some (lua fr) → shut_all co n frames (open_at co f r) ≡ closed (nth fr.own.registers r)
shut_own co n d f r [] fr z e = absurd (cc)
shut_own co n zero f r (m ∷ fs) fr z e =
    let g : m ≡ lua fr = cc in let y : f ≡ n = omega (arith, z) in
    ap (λ m. shut_all co n (m ∷ fs) (open_at co f r)) g ∙ ap (λ f. shut_all co (suc n) fs (closed_one co n fr.own.registers (open_at co f r))) y ∙ ap (shut_all co (suc n) fs) (one_own co n r fr.own.registers) ∙ shut_closed co (suc n) fs (nth fr.own.registers r)
shut_own co n (suc d) f r (lua g ∷ fs) fr z e =
    ap (shut_all co (suc n) fs) (one_other co co n f r g.own.registers (λ y. omega (arith, y, z))) ∙ shut_own co (suc n) d f r fs fr (omega (arith, z)) e
shut_own co n (suc d) f r (pcall ∷ fs) fr z e = shut_own co (suc n) d f r fs fr (omega (arith, z)) e
shut_own co n (suc d) f r (xpcall h ∷ fs) fr z e = shut_own co (suc n) d f r fs fr (omega (arith, z)) e
shut_own co n (suc d) f r (handler ∷ fs) fr z e = shut_own co (suc n) d f r fs fr (omega (arith, z)) e
shut_own co n (suc d) f r (machine.closing y us ∷ fs) fr z e = shut_own co (suc n) d f r fs fr (omega (arith, z)) e

-- a held cell has the value of the register that stands for it
pub below_held : (lax : Bool) (fs : List machine.Function) (vs : List Value) (ms : List machine.Frame) (ts : List TalkFrame) (hs : List Held) (f r c : ℕ) → Below lax fs vs ms ts hs → Holds f r c hs → (fr : LuaFrame) × (slice_get (upward ms) f ≡ Some (lua fr)) × (nth vs c ≡ nth fr.own.registers r)
below_held lax fs vs [] [] [] f r c k n = absurd n
below_held lax fs vs (m ∷ ms) (t ∷ ts) (h ∷ hs) f r c k n =
    let l = below_length (under m) fs vs ms ts hs k.1 in
    ⊎_elim
    (λ e. let p = here lax m t h k.0 e.1 in (p.0, frame_top ms m f (e.0 ∙ l) ∙ ap Some p.1, p.2))
    (λ e. let p = below_held (under m) fs vs ms ts hs f r c k.1 e in let i = holds_less hs f r c e in (p.0, frame_below ms m f (omega (arith, i, l)) ∙ p.1, p.2))
    n
  where
    here : (lax : Bool) (m : machine.Frame) (t : TalkFrame) (h : Held) → Pair lax fs vs m t h → Has r c h → (fr : LuaFrame) × (m ≡ lua fr) × (nth vs c ≡ nth fr.own.registers r)
    here lax (lua fr) (waiting a) h q n = (fr, refl, q.2.on r c n)
    here true (lua fr) (raising a) h q n = (fr, refl, q.2.on r c n)
    here lax pcall protected h q n = absurd (subst (Has r c) q n)
    here lax (xpcall x) (handled_by y) h q n = absurd (subst (Has r c) q.1 n)
    here lax handler handling h q n = absurd (subst (Has r c) q n)
    here lax (machine.closing e us) (talk.closing d xs) h q n = absurd (subst (Has r c) q.2 n)
    here lax _ _ h q n = absurd q
below_held lax fs vs _ _ _ f r c k n = absurd k

-- all cells of a coroutine are closed
module _ (fs : List machine.Function) (lax : Bool) (ws : List Cell) (vs : List Value) (hss : List (List Held)) (k : CellsPair ws vs hss) (co : ℕ) (frames : List machine.Frame) (ts : List TalkFrame) (hs : List Held)
    (e : slice_get hss co ≡ Some hs) (s : Stacks lax fs vs frames ts hs) where
  abbrev ws' : List Cell
  ws' = all_closed_from co 0 frames ws

  was : (c : ℕ) (x : Cell) → slice_get ws' c ≡ Some x → (y : Cell) × (slice_get ws c ≡ Some y) × (shut_all co 0 frames y ≡ x)
  was c x d = by (slice_get ws c) refl (sym (all_get co 0 frames ws c) ∙ d)
    where
      by : (o : Option Cell) → slice_get ws c ≡ o → mapped (shut_all co 0 frames) o ≡ Some x → (y : Cell) × (slice_get ws c ≡ Some y) × (shut_all co 0 frames y ≡ x)
      by None q z = absurd (cc)
      by (Some y) q z = let w : shut_all co 0 frames y ≡ x = cc in (y, q, w)

  held_frame : (f r c : ℕ) → slice_get ws c ≡ Some (open_at co f r) → (fr : LuaFrame) × (slice_get frames f ≡ Some (lua fr)) × (nth vs c ≡ nth fr.own.registers r)
  held_frame f r c d =
      let n : Holds f r c hs = subst (λ o. HoldsOf o f r c) e (k.opened c co f r d) in
      let p = below_held lax fs vs s.ms ts hs f r c s.below n in (p.0, ap (λ xs. slice_get xs f) (s.listed ∙ reverse_is s.ms) ∙ p.1, p.2)

  own_shut : (f r c : ℕ) → slice_get ws c ≡ Some (open_at co f r) → shut_all co 0 frames (open_at co f r) ≡ closed (nth vs c)
  own_shut f r c d = let p = held_frame f r c d in shut_own co 0 f f r frames p.0 (omega arith) p.1 ∙ ap closed (sym p.2)

  still_open : (c i f r : ℕ) → slice_get ws' c ≡ Some (open_at i f r) → (slice_get ws c ≡ Some (open_at i f r)) × (co ≢ i)
  still_open c i f r d = let w = was c (open_at i f r) d in by w.0 w.1 w.2
    where
      by : (y : Cell) → slice_get ws c ≡ Some y → shut_all co 0 frames y ≡ open_at i f r → (slice_get ws c ≡ Some (open_at i f r)) × (co ≢ i)
      by (closed v) q z = absurd (let y : closed v ≡ open_at i f r = sym (shut_closed co 0 frames v) ∙ z in cc)
      by (open_at j g q') q z = ⊎_elim
          (λ d. absurd (let a : closed (nth vs c) ≡ open_at i f r = sym (own_shut g q' c (q ∙ ap (λ j. Some (open_at j g q')) (sym d))) ∙ ap (λ j. shut_all co 0 frames (open_at j g q')) d ∙ z in cc))
          (λ n. let a : open_at j g q' ≡ open_at i f r = sym (shut_apart co j 0 g q' frames n) ∙ z in let b : j ≡ i = cc in (q ∙ ap Some a, λ d. n (d ∙ sym b)))
          (cases_eq co j)

  pub all_shut : CellsPair ws' vs (slice_set hss co [])
  all_shut = record {
    size = all_length co 0 frames ws ∙ k.size;
    shut = λ c v d. let w = was c (closed v) d in shut_by c v w.0 w.1 w.2;
    opened = λ c i f r d. let o = still_open c i f r d in subst (λ o. HoldsOf o f r c) (sym (get_set_other hss co i [] o.1)) (k.opened c i f r o.0);
    held_open = λ c i f r n. ⊎_elim
        (λ d. absurd (subst (λ o. HoldsOf o f r c) (ap (slice_get (slice_set hss co [])) (sym d) ∙ get_set_same hss co hs [] e) n))
        (λ d. let m = k.held_open c i f r (subst (λ o. HoldsOf o f r c) (get_set_other hss co i [] d) n) in
        all_get co 0 frames ws c ∙ ap (mapped (shut_all co 0 frames)) m ∙ ap Some (shut_apart co i 0 f r frames d))
        (cases_eq co i);
    one = λ c d i f r a b. k.one c d i f r (still_open c i f r a).0 (still_open d i f r b).0;
  }
    where
      shut_by : (c : ℕ) (v : Value) (y : Cell) → slice_get ws c ≡ Some y → shut_all co 0 frames y ≡ closed v → nth vs c ≡ v
      shut_by c v (closed w) q z = let y : closed w ≡ closed v = sym (shut_closed co 0 frames w) ∙ z in let x : w ≡ v = cc in k.shut c w q ∙ x
      shut_by c v (open_at j g r) q z = ⊎_elim
          (λ d. let a : closed (nth vs c) ≡ closed v = sym (own_shut g r c (q ∙ ap (λ j. Some (open_at j g r)) (sym d))) ∙ ap (λ j. shut_all co 0 frames (open_at j g r)) d ∙ z in cc)
          (λ n. absurd (let a : open_at j g r ≡ closed v = sym (shut_apart co j 0 g r frames n) ∙ z in cc))
          (cases_eq co j)
