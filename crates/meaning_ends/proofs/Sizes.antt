-- How much a world may still do before a unit of fuel is spent: sizes of frames, of coroutines, and of what is going on.
use Rattle.std.proofs.Common.{◌≡◌, ℕ, zero, suc, ◌+◌, ◌*◌, ◌<◌, ◌≤◌, Bool, true, false, List, [], ◌∷◌, ◌++◌, length, Some, refl, arith}
use Rattle.std.specs.Prelude.{slice_get, slice_set}
use Rattle.int_core.specs.Value.{Value}
use Rattle.int_core.specs.Ask.{IsLeft, Answer}
use Rattle.tree_core.specs.Tree.{Body}
use Rattle.tree_activation.specs.Work.{State}
use Rattle.lua_meaning.specs.World.{Frame, talking, waiting, raising, protected, handled_by, handling, closing, Coroutine, fresh, running, normal, Now, talks, gives_back, raises_error, unwinds, calls_primitive, ends, World}
use Rattle.lua_meaning.specs.Calls.{frames_in}
use Rattle.meaning_ends.proofs.Measure.{measure}

abbrev pub cost : Now → ℕ
cost talks = 0
cost (gives_back vs) = 1
cost (raises_error e) = 3
cost (unwinds e) = 1
cost (calls_primitive n vs) = 0
cost (ends ending) = 0

abbrev pub is_call : Now → Bool
is_call (calls_primitive n vs) = true
is_call now = false

-- a frame has at most this size; one that waits, whatever it is answered
abbrev pub FrameFits : Frame State → ℕ → Type 0
FrameFits (talking f s) n = 4 * measure s + 2 ≤ n
FrameFits (waiting asker) n = (x : Answer) → 4 * measure (asker.goes x) + 2 ≤ n
FrameFits (raising asker) n = (x : Answer) → IsLeft x.reply → 4 * measure (asker.goes x) + 2 ≤ n
FrameFits protected n = 1 ≤ n
FrameFits (handled_by h) n = 1 ≤ n
FrameFits handling n = 1 ≤ n
FrameFits (closing e vs) n = 3 * length vs + 1 ≤ n

abbrev pub FramesFit : List (Frame State) → ℕ → Type 0
FramesFit [] n = Unit {0}
FramesFit (f ∷ frames) n = (a : ℕ) × (b : ℕ) × FrameFits f a × FramesFit frames b × (a + b ≤ n)

abbrev pub AllFit : List (Coroutine State) → ℕ → Type 0
AllFit [] n = Unit {0}
AllFit (c ∷ cs) n = (a : ℕ) × (b : ℕ) × FramesFit (frames_in (Some c)) a × AllFit cs b × (a + b ≤ n)

pub record Fits (chain : List ℕ) (frames : List (Frame State)) (coroutines : List (Coroutine State)) (n : ℕ) : Type 0 where
  pub chained : 1 ≤ length chain
  pub top : ℕ
  pub others : ℕ
  pub frames_fit : FramesFit frames top
  pub others_fit : AllFit coroutines others
  pub within : top + others + length chain ≤ n

-- what holds of each world that a run comes to: it has a size, and a coroutine runs
abbrev pub CanEnd : World Body State → Type 0
CanEnd W = (n : ℕ) × Fits W.chain W.frames W.coroutines n

-- frames

pub over : (chain : List ℕ) (f : Frame State) (below : List (Frame State)) (cs : List (Coroutine State)) (a n : ℕ)
    → FrameFits f a → Fits chain below cs n → Fits chain (f ∷ below) cs (a + n)
over chain f below cs a n one p = let w = p.within in record {
  chained = p.chained;
  top = a + p.top;
  others = p.others;
  frames_fit = (a, p.top, one, p.frames_fit, omega arith);
  others_fit = p.others_fit;
  within = omega (arith, w);
}

pub under : (chain : List ℕ) (f : Frame State) (below : List (Frame State)) (cs : List (Coroutine State)) (n : ℕ)
    → Fits chain (f ∷ below) cs n → (a : ℕ) × (m : ℕ) × FrameFits f a × Fits chain below cs m × (a + m ≤ n)
under chain f below cs n p = let w = p.within in let s = p.frames_fit.4 in (
  p.frames_fit.0,
  p.frames_fit.1 + p.others + length chain,
  p.frames_fit.2,
  record { chained = p.chained; top = p.frames_fit.1; others = p.others; frames_fit = p.frames_fit.3; others_fit = p.others_fit; within = omega arith },
  omega (arith, w, s),
)

frames_still : (frames : List (Frame State)) (m n : ℕ) → FramesFit frames m → m ≤ n → FramesFit frames n
frames_still [] m n fit le = tt
frames_still (f ∷ frames) m n fit le = let s = fit.4 in (fit.0, fit.1, fit.2, fit.3, omega (arith, s, le))

-- coroutines

pub put : (cs : List (Coroutine State)) (i : ℕ) (c : Coroutine State) (n x : ℕ) → AllFit cs n → FramesFit (frames_in (Some c)) x → AllFit (slice_set cs i c) (n + x)
put [] i c n x all one = tt
put (d ∷ cs) zero c n x all one = let s = all.4 in (x, all.1, one, all.3, omega (arith, s))
put (d ∷ cs) (suc i) c n x all one = let s = all.4 in (all.0, all.1 + x, all.2, put cs i c all.1 x all.3 one, omega (arith, s))

pub got : (cs : List (Coroutine State)) (i : ℕ) (n : ℕ) → AllFit cs n → FramesFit (frames_in (slice_get cs i)) n
got [] i n all = tt
got (d ∷ cs) zero n all = let s = all.4 in frames_still (frames_in (Some d)) all.0 n all.2 (omega (arith, s))
got (d ∷ cs) (suc i) n all = let s = all.4 in frames_still (frames_in (slice_get cs i)) all.1 n (got cs i all.1 all.3) (omega (arith, s))

pub with_one : (cs : List (Coroutine State)) (c : Coroutine State) (n x : ℕ) → AllFit cs n → FramesFit (frames_in (Some c)) x → AllFit (cs ++ c ∷ []) (n + x)
with_one [] c n x all one = (x, 0, one, tt, omega arith)
with_one (d ∷ cs) c n x all one = let s = all.4 in (all.0, all.1 + x, all.2, with_one cs c all.1 x all.3 one, omega (arith, s))

taken : (cs : List (Coroutine State)) (i n : ℕ) → AllFit cs n → (a : ℕ) × (m : ℕ) × FramesFit (frames_in (slice_get cs i)) a × AllFit (slice_set cs i running) m × (a + m ≤ n)
taken [] i n all = (0, 0, tt, tt, omega arith)
taken (d ∷ cs) zero n all = let s = all.4 in (all.0, all.1, all.2, (0, all.1, tt, all.3, omega arith), s)
taken (d ∷ cs) (suc i) n all = let s = all.4 in let t = taken cs i all.1 all.3 in let u = t.4 in
    (t.0, all.0 + t.1, t.2, (all.0, t.1, all.2, t.3, omega arith), omega (arith, s, u))

-- one coroutine is left as it is now, and the frames of another come to run
pub swapped : (cs : List (Coroutine State)) (i j : ℕ) (c : Coroutine State) (n x : ℕ) → AllFit cs n → FramesFit (frames_in (Some c)) x
    → (a : ℕ) × (m : ℕ) × FramesFit (frames_in (slice_get cs j)) a × AllFit (slice_set (slice_set cs i c) j running) m × (a + m ≤ n + x)
swapped [] i j c n x all one = (0, 0, tt, tt, omega arith)
swapped (d ∷ cs) zero zero c n x all one = let s = all.4 in (all.0, all.1, all.2, (0, all.1, tt, all.3, omega arith), omega (arith, s))
swapped (d ∷ cs) zero (suc j) c n x all one = let s = all.4 in let t = taken cs j all.1 all.3 in let u = t.4 in
    (t.0, x + t.1, t.2, (x, t.1, one, t.3, omega arith), omega (arith, s, u))
swapped (d ∷ cs) (suc i) zero c n x all one = let s = all.4 in
    (all.0, all.1 + x, all.2, (0, all.1 + x, tt, put cs i c all.1 x all.3 one, omega arith), omega (arith, s))
swapped (d ∷ cs) (suc i) (suc j) c n x all one = let s = all.4 in let t = swapped cs i j c all.1 x all.3 one in let u = t.4 in
    (t.0, all.0 + t.1, t.2, (all.0, t.1, all.2, t.3, omega arith), omega (arith, s, u))

-- how many coroutines have not begun

abbrev pub fresh_one : Coroutine State → ℕ
fresh_one (fresh body) = 1
fresh_one c = 0

abbrev pub fresh_count : List (Coroutine State) → ℕ
fresh_count [] = 0
fresh_count (c ∷ cs) = fresh_one c + fresh_count cs

fresh_is : (c : Coroutine State) (body : Value) → Some c ≡ Some (fresh body) → fresh_one c ≡ 1
fresh_is (fresh other) body e = refl
fresh_is _ body e = absurd (cc)

fresh_set : (cs : List (Coroutine State)) (i : ℕ) (c : Coroutine State) → fresh_one c ≡ 0 → fresh_count (slice_set cs i c) ≤ fresh_count cs
fresh_set [] i c e = omega arith
fresh_set (d ∷ cs) zero c e = omega (arith, e)
fresh_set (d ∷ cs) (suc i) c e = let h = fresh_set cs i c e in omega (arith, h)

fresh_taken : (cs : List (Coroutine State)) (j : ℕ) (body : Value) → slice_get cs j ≡ Some (fresh body) → fresh_count (slice_set cs j running) < fresh_count cs
fresh_taken [] j body e = absurd (cc)
fresh_taken (d ∷ cs) zero body e = let h = fresh_is d body e in omega (arith, h)
fresh_taken (d ∷ cs) (suc j) body e = let h = fresh_taken cs j body e in omega (arith, h)

pub fresh_fewer : (cs : List (Coroutine State)) (i j : ℕ) (frames : List (Frame State)) (body : Value) → slice_get cs j ≡ Some (fresh body)
    → fresh_count (slice_set (slice_set cs i (normal frames)) j running) < fresh_count cs
fresh_fewer [] i j frames body e = absurd (cc)
fresh_fewer (d ∷ cs) zero zero frames body e = let h = fresh_is d body e in omega (arith, h)
fresh_fewer (d ∷ cs) zero (suc j) frames body e = let h = fresh_taken cs j body e in omega (arith, h)
fresh_fewer (d ∷ cs) (suc i) zero frames body e = let h = fresh_is d body e in let k = fresh_set cs i (normal frames) refl in omega (arith, h, k)
fresh_fewer (d ∷ cs) (suc i) (suc j) frames body e = let h = fresh_fewer cs i j frames body e in omega (arith, h)
