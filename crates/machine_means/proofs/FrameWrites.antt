-- A cell that is open in the frames of a coroutine is written by whoever runs: both worlds stay joined.
use Rattle.std.proofs.Common.{ℕ, suc, ◌<◌, ◌≡◌, inl, inr, ⊎_elim, List, [], ◌∷◌, length, Some, refl, sym, ap, subst, ◌∙◌, arith, Bool, true, false}
use Rattle.std.specs.Prelude.{slice_get, slice_set, cond, nat_eq}
use Rattle.std.proofs.lemmas.Bool.{cases_eq}
use Rattle.std.proofs.lemmas.Option.{slice_get_within}
use Rattle.int_core.specs.Value.{Value, nth, write}
use Rattle.machine_core.specs.World as machine
use Rattle.machine_core.specs.World.{Cell, closed, open_at, LuaFrame, lua, pcall, xpcall, handler, in_progress, frames_of, lua_frame, with_frames, write_in_frame, write_in_coroutine}
use Rattle.lua_meaning.specs.World as talk
use Rattle.lua_meaning.specs.World.{waiting, raising, protected, handled_by, handling}
use Rattle.machine_core.specs.Talk.{State}
use Rattle.list_laws.proofs.Ends.{upward}
use Rattle.list_laws.proofs.Values.{nth_set_same, nth_set_other, nth_write_same, nth_write_other, length_write}
use Rattle.list_laws.proofs.Tests.{eq_true, eq_refl}
use Rattle.list_laws.proofs.Items.{length_set}
use Rattle.list_laws.specs.Held.{Held, Has}
use Rattle.machine_means.specs.Joined.{Holds, RegistersPair}
use Rattle.machine_means.proofs.Held.{holds_less}
use Rattle.machine_means.proofs.FrameNumbers.{value_in, frame_top, frame_below, put_frame}
use Rattle.machine_means.specs.Joined.{TalkFrame, LuaPair, Pair, under, Below, Stacks, HoldsOf, HoldsIn, CellsPair, Asleep}

-- what is held by one stack alone
pub record Apart (hs : List Held) : Type 0 where
  pub fn : (f r g q c : ℕ) → Holds f r c hs → Holds g q c hs → (f ≡ g) × (r ≡ q)
  pub inj : (f r c d : ℕ) → Holds f r c hs → Holds f r d hs → c ≡ d

pub apart_less : (h : Held) (hs : List Held) → Apart (h ∷ hs) → Apart hs
apart_less h hs a = record { fn = λ f r g q c m n. a.fn f r g q c (inr m) (inr n); inj = λ f r c d m n. a.inj f r c d (inr m) (inr n) }

pub below_length : (lax : Bool) (fs : List machine.Function) (vs : List Value) (ms : List machine.Frame) (ts : List TalkFrame) (hs : List Held) → Below lax fs vs ms ts hs → length hs ≡ length ms
below_length lax fs vs [] [] [] k = refl
below_length lax fs vs (m ∷ ms) (t ∷ ts) (h ∷ hs) k = ap suc (below_length (under m) fs vs ms ts hs k.1)
below_length lax fs vs _ _ _ k = absurd k

-- frames of two lists of functions and of cells stand for each other where those that have an activation do
pub pair_on : (lax : Bool) (fs gs : List machine.Function) (vs ws : List Value) (m : machine.Frame) (t : TalkFrame) (h : Held)
    → ((lo : Bool) (fr : LuaFrame) (asker : talk.Asker State) → LuaPair lo fs vs fr asker h → LuaPair lo gs ws fr asker h) → Pair lax fs vs m t h → Pair lax gs ws m t h
pair_on lax fs gs vs ws (lua fr) (waiting asker) h on k = on false fr asker k
pair_on true fs gs vs ws (lua fr) (raising asker) h on k = on true fr asker k
pair_on lax fs gs vs ws pcall protected h on k = k
pair_on lax fs gs vs ws (xpcall v) (handled_by u) h on k = k
pair_on lax fs gs vs ws handler handling h on k = k
pair_on lax fs gs vs ws (machine.closing e us) (talk.closing d xs) h on k = k
pair_on lax fs gs vs ws _ _ h on k = absurd k

-- cells that no frame here holds may change
pub pair_values : (lax : Bool) (fs : List machine.Function) (vs vs' : List Value) (m : machine.Frame) (t : TalkFrame) (h : Held) → ((r c : ℕ) → Has r c h → nth vs' c ≡ nth vs c) → Pair lax fs vs m t h → Pair lax fs vs' m t h
pair_values lax fs vs vs' m t h e k = pair_on lax fs fs vs vs' m t h (λ lo fr asker p. let o = p.2 in (p.0, p.1, record { size = o.size; off = o.off; on = λ r c n. e r c n ∙ o.on r c n })) k

pub below_values : (lax : Bool) (fs : List machine.Function) (vs vs' : List Value) (ms : List machine.Frame) (ts : List TalkFrame) (hs : List Held) → ((f r c : ℕ) → Holds f r c hs → nth vs' c ≡ nth vs c) → Below lax fs vs ms ts hs → Below lax fs vs' ms ts hs
below_values lax fs vs vs' [] [] [] e k = tt
below_values lax fs vs vs' (m ∷ ms) (t ∷ ts) (h ∷ hs) e k =
    (pair_values lax fs vs vs' m t h (λ r c n. e (length hs) r c (inl (refl, n))) k.0, below_values (under m) fs vs vs' ms ts hs (λ f r c n. e f r c (inr n)) k.1)
below_values lax fs vs vs' _ _ _ e k = absurd k

other_values : (hs : List Held) (vs : List Value) (c : ℕ) (v : Value) → ((f q : ℕ) → Holds f q c hs → ⊥) → (f r d : ℕ) → Holds f r d hs → nth (slice_set vs c v) d ≡ nth vs d
other_values hs vs c v u f r d m = nth_set_other c v vs d (λ e. u f r (subst (λ d. Holds f r d hs) e m))

-- in the frame that holds it
regs_write : (vs : List Value) (h : Held) (xs regs : List Value) (r c : ℕ) (v : Value) → c < length vs → r < length regs → ((q d : ℕ) → Has q d h → (q ≡ r → d ≡ c) × (d ≡ c → q ≡ r)) → Has r c h → RegistersPair vs h xs regs → RegistersPair (slice_set vs c v) h xs (write r v regs)
regs_write vs h xs regs r c v lc lr u m k =
    let l = length_write r v regs lr in
    record {
      size = (let i = k.size in omega (arith, i, l));
      off = λ q. ⊎_elim
          (λ e. inr (c, subst (λ q. Has q c h) (sym e) m))
          (λ n. ⊎_elim (λ e. inl (e ∙ sym (nth_write_other r v regs q n))) (λ e. inr e) (k.off q))
          (cases_eq q r);
      on = λ q d n. ⊎_elim
          (λ e. let f = (u q d n).1 e in
          ap (nth (slice_set vs c v)) e ∙ nth_set_same c v vs lc ∙ sym (nth_write_same r v regs) ∙ ap (nth (write r v regs)) (sym f))
          (λ ne. nth_set_other c v vs d ne ∙ k.on q d n ∙ sym (nth_write_other r v regs q (λ e. ne ((u q d n).0 e))))
          (cases_eq d c);
    }

written_asleep : (lo : Bool) (fs : List machine.Function) (fr : LuaFrame) (asker : talk.Asker State) (h : Held) (a : machine.Activation) (regs : List Value) → Asleep lo fs fr asker h a → Asleep lo fs (record fr { own = record fr.own { registers = regs } }) asker h a
written_asleep lo fs fr asker h a regs k = record {
  number = k.number;
  function = k.function;
  there = k.there;
  gone = k.gone;
  shares = k.shares;
  at_line = k.at_line;
  waits = k.waits;
  next = k.next;
  own = ap (λ (b : machine.Activation). record b { registers = regs }) k.own;
  not_own = k.not_own;
}

register_there : (fr : LuaFrame) (r : ℕ) (u : Value) → value_in (Some (lua fr)) r ≡ Some u → r < length fr.own.registers
register_there fr r u e = slice_get_within fr.own.registers r u e

pair_write : (lax : Bool) (fs : List machine.Function) (vs : List Value) (m : machine.Frame) (t : TalkFrame) (h : Held) (r c : ℕ) (v u : Value) → value_in (Some m) r ≡ Some u → c < length vs → ((q d : ℕ) → Has q d h → (q ≡ r → d ≡ c) × (d ≡ c → q ≡ r)) → Has r c h → Pair lax fs vs m t h → Pair lax fs (slice_set vs c v) (write_in_frame r v m) t h
pair_write lax fs vs (lua fr) (waiting x) h r c v u w lc i n k =
    (k.0, written_asleep false fs fr x h k.0 (write r v fr.own.registers) k.1, regs_write vs h k.0.registers fr.own.registers r c v lc (register_there fr r u w) i n k.2)
pair_write true fs vs (lua fr) (raising x) h r c v u w lc i n k =
    (k.0, written_asleep true fs fr x h k.0 (write r v fr.own.registers) k.1, regs_write vs h k.0.registers fr.own.registers r c v lc (register_there fr r u w) i n k.2)
pair_write lax fs vs pcall protected h r c v u w lc i n k = absurd (subst (Has r c) k n)
pair_write lax fs vs (xpcall x) (handled_by x') h r c v u w lc i n k = absurd (subst (Has r c) k.1 n)
pair_write lax fs vs handler handling h r c v u w lc i n k = absurd (subst (Has r c) k n)
pair_write lax fs vs (machine.closing d us) (talk.closing d' ws) h r c v u w lc i n k = absurd (subst (Has r c) k.2 n)
pair_write lax fs vs _ _ h r c v u w lc i n k = absurd k

under_write : (r : ℕ) (v : Value) (m : machine.Frame) → under (write_in_frame r v m) ≡ under m
under_write r v (lua fr) = refl
under_write r v _ = refl

pub below_write : (lax : Bool) (fs : List machine.Function) (vs : List Value) (ms : List machine.Frame) (ts : List TalkFrame) (hs : List Held) (f r c : ℕ) (v u : Value) → value_in (slice_get (upward ms) f) r ≡ Some u → c < length vs → Apart hs → Holds f r c hs → Below lax fs vs ms ts hs → Below lax fs (slice_set vs c v) (put_frame f r v ms) ts hs
below_write lax fs vs [] [] [] f r c v u w lc a m k = tt
below_write lax fs vs (m' ∷ ms) (t ∷ ts) (h ∷ hs) f r c v u w lc a m k =
    let l = below_length (under m') fs vs ms ts hs k.1 in
    by (nat_eq f (length ms)) refl l (λ i n. below_write (under m') fs vs ms ts hs f r c v u (sym (ap (λ o. value_in o r) (frame_below ms m' f i)) ∙ w) lc (apart_less h hs a) n k.1)
  where
    by : (b : Bool) → nat_eq f (length ms) ≡ b → length hs ≡ length ms → (f < length ms → Holds f r c hs → Below (under m') fs (slice_set vs c v) (put_frame f r v ms) ts hs) → Below lax fs (slice_set vs c v) (cond b (write_in_frame r v m' ∷ ms) (m' ∷ put_frame f r v ms)) (t ∷ ts) (h ∷ hs)
    by true d l ih =
        let e : f ≡ length hs = eq_true f (length ms) d ∙ sym l in
        let w' : value_in (Some m') r ≡ Some u = sym (ap (λ o. value_in o r) (frame_top ms m' f (eq_true f (length ms) d))) ∙ w in
        let n : Has r c h = ⊎_elim (λ n. n.1) (λ n. let i = holds_less hs f r c n in absurd (omega (arith, e, i))) m in (
          pair_write lax fs vs m' t h r c v u w' lc (λ q d n'. ((λ e'. a.inj f r d c (inl (e, subst (λ q. Has q d h) e' n')) m), (λ e'. (a.fn (length hs) q f r c (inl (refl, subst (λ d. Has q d h) e' n')) m).1))) n k.0,
          subst (λ z. Below z fs (slice_set vs c v) ms ts hs) (sym (under_write r v m'))
              (below_values (under m') fs vs (slice_set vs c v) ms ts hs (other_values hs vs c v (λ g q n'. let i = holds_less hs g q c n' in let j = (a.fn g q f r c (inr n') m).0 in omega (arith, e, i, j))) k.1),
        )
    by false d l ih =
        let n : Holds f r c hs = ⊎_elim (λ n. let z : true ≡ false = sym (eq_refl (length ms)) ∙ ap (λ z. nat_eq z (length ms)) (sym (n.0 ∙ l)) ∙ d in absurd (cc)) (λ n. n) m in
        let less : f < length ms = (let i = holds_less hs f r c n in omega (arith, i, l)) in
        (pair_values lax fs vs (slice_set vs c v) m' t h (λ q d n'. nth_set_other c v vs d (λ e'. let i = holds_less hs f r c n in let j = (a.fn (length hs) q f r c (inl (refl, subst (λ d. Has q d h) e' n')) m).0 in omega (arith, i, j))) k.0, ih less n)
below_write lax fs vs _ _ _ f r c v u w lc a m k = absurd k

-- what a coroutine holds is held by no other one, and by one frame of it
module _ (ws : List Cell) (vs : List Value) (hss : List (List Held)) (k : CellsPair ws vs hss) where
  pub one_owner : (i f r j g q c : ℕ) → HoldsIn hss i f r c → HoldsIn hss j g q c → (i ≡ j) × (f ≡ g) × (r ≡ q)
  one_owner i f r j g q c m n =
      let e : Some (open_at i f r) ≡ Some (open_at j g q) = sym (k.held_open c i f r m) ∙ k.held_open c j g q n in
      let a : i ≡ j = cc in let b : f ≡ g = cc in let d : r ≡ q = cc in (a, b, d)

  pub apart_in : (i : ℕ) (hs : List Held) → slice_get hss i ≡ Some hs → Apart hs
  apart_in i hs e = record {
    fn = λ f r g q c m n. let o = one_owner i f r i g q c (subst (λ o. HoldsOf o f r c) (sym e) m) (subst (λ o. HoldsOf o g q c) (sym e) n) in (o.1, o.2);
    inj = λ f r c d m n. k.one c d i f r (k.held_open c i f r (subst (λ o. HoldsOf o f r c) (sym e) m)) (k.held_open d i f r (subst (λ o. HoldsOf o f r d) (sym e) n));
  }

  -- a cell that is open gets another value
  pub cells_put : (c i f r : ℕ) (v : Value) → slice_get ws c ≡ Some (open_at i f r) → CellsPair ws (slice_set vs c v) hss
  cells_put c i f r v e = record {
    size = k.size ∙ sym (length_set vs c v);
    shut = λ d u g. nth_set_other c v vs d (λ q. let z : Some (closed u) ≡ Some (open_at i f r) = sym g ∙ ap (slice_get ws) q ∙ e in cc) ∙ k.shut d u g;
    opened = k.opened;
    held_open = k.held_open;
    one = k.one;
  }

-- a suspended stack, one frame of which is written
module _ (fs : List machine.Function) (vs : List Value) (c : ℕ) (v : Value) where
  pub stack_values : (lax : Bool) (frames : List machine.Frame) (ts : List TalkFrame) (hs : List Held) → ((f q : ℕ) → Holds f q c hs → ⊥) → Stacks lax fs vs frames ts hs → Stacks lax fs (slice_set vs c v) frames ts hs
  stack_values lax frames ts hs n s = record { ms = s.ms; listed = s.listed; below = below_values lax fs vs (slice_set vs c v) s.ms ts hs (other_values hs vs c v n) s.below; depth = s.depth }
