-- The frame of a function over the arguments that stand at a place.
use Rattle.std.proofs.Common.{◌≡◌, ℕ, zero, suc, ◌+◌, ◌-◌, ◌<◌, ◌≤◌, Bool, true, false, min, List, [], ◌∷◌, ◌++◌, length, map, take, drop, refl, ap, sym, ◌∙◌, arith, le_refl, length-append}
use Rattle.std.specs.Prelude.{cond}
use Rattle.std.proofs.lemmas.List.{length-take, length-drop, length-map}
use Rattle.int_core.specs.Value.{Value, known, nil, fitted}
use Rattle.code_core.specs.Prototype.{Prototype}
use Rattle.machine_core.specs.World.{running, Frame, lua}
use Rattle.machine_core.specs.Text.{nils}
use Rattle.machine_core.specs.Moves.{new_frame}
use Rattle.table_core.specs.declared.value.Value.{Value as Kept}
use Rattle.table_core.specs.declared.value.Value.TheVariants.{Nil}
use Rattle.table_core.specs.declared.value.FuncId.{FuncId}
use Rattle.lua_stack.specs.declared.frame.Window.{Window}
use Rattle.lua_stack.specs.declared.frame.Layout.{Layout}
use Rattle.lua_stack.specs.declared.frame.Shape.{Shape}
use Rattle.lua_stack.specs.declared.frame.Record.{Record}
use Rattle.lua_stack.specs.Frames.{IsShapeOf, frame_of}
use Rattle.lua_stack.specs.View.{part, blank, padded, put_all, frame_at, AllUnder, AreStacked, IsStack, IsLaidOut, begun_at}
use Rattle.lua_stack.proofs.Parts.{length_blank, length_part, length_put_all, map_take, no_blank, part_kept, part_part, part_put_all, part_put_in, put_append, put_tail, take_put_all, take_take, take_whole}
use Rattle.lua_stack.proofs.Stacked.{stacked_longer, under_more, below_kept}
use Rattle.lua_stack.proofs.Ends.{map_more}
use Rattle.lua_stack.proofs.Own.{map_blank}

pub take_both : {A : Type 0} (a b : ℕ) (xs : List A) → take a (take b xs) ≡ take (min b a) xs
take_both zero b xs = let e : min b 0 ≡ 0 = omega arith in ap (λ n. take n xs) (sym e)
take_both (suc a) zero xs = let e : min 0 (suc a) ≡ 0 = omega arith in ap (λ n. take n xs) (sym e)
take_both {A = A} (suc a) (suc b) [] = let e : min (suc b) (suc a) ≡ suc (min b a) = omega arith in ap (λ n. take {A = A} n []) (sym e)
take_both (suc a) (suc b) (x ∷ xs) = let e : min (suc b) (suc a) ≡ suc (min b a) = omega arith in ap (λ l. x ∷ l) (take_both a b xs) ∙ ap (λ n. take n (x ∷ xs)) (sym e)

pub drop_over : {A : Type 0} (n : ℕ) (xs : List A) → length xs ≤ n → drop n xs ≡ []
drop_over zero [] l = refl
drop_over (suc n) [] l = refl
drop_over zero (x ∷ xs) l = absurd (omega arith)
drop_over (suc n) (x ∷ xs) l = drop_over n xs (omega arith)

no_extras : (shape : Shape) (given : ℕ) (xs : List Kept) → length xs ≡ given → cond shape.vararg (given - shape.params) 0 ≡ 0 → cond shape.vararg (drop shape.params xs) [] ≡ []
no_extras shape given xs l e = by shape.vararg e
  where
    by : (b : Bool) → cond b (given - shape.params) 0 ≡ 0 → cond b (drop shape.params xs) [] ≡ []
    by true e = drop_over shape.params xs (omega (arith, l, e))
    by false e = refl

more_given : (shape : Shape) (given : ℕ) → (cond shape.vararg (given - shape.params) 0 ≡ 0 → ⊥) → (shape.vararg ≡ true) × (shape.params < given)
more_given shape given n = by shape.vararg refl n
  where
    zero_or : (k : ℕ) → (k ≡ 0 → ⊥) → 0 < k
    zero_or zero n = absurd (n refl)
    zero_or (suc k) n = omega arith

    by : (b : Bool) → shape.vararg ≡ b → (cond b (given - shape.params) 0 ≡ 0 → ⊥) → (shape.vararg ≡ true) × (shape.params < given)
    by true e n = (e, let k = zero_or (given - shape.params) n in omega (arith, k))
    by false e n = absurd (n refl)

-- the values stand

module _ (values new : List Kept) (place given : ℕ) (shape : Shape) (fits : shape.params ≤ shape.stack) (room : place + given + shape.stack ≤ length values) where
  abbrev arguments : List Kept
  arguments = part place given values

  arguments_length : length arguments ≡ given
  arguments_length = length_part place given values (omega (arith, room))

  taken_length : (count : ℕ) → count ≡ min given shape.params → length (take shape.params arguments) ≡ count
  taken_length count e = let n = length-take shape.params arguments in let m = arguments_length in omega (arith, e, n, m)

  -- where the function keeps none beyond its parameters
  pub laid_in_place : (count at : ℕ) → cond shape.vararg (given - shape.params) 0 ≡ 0 → count ≡ min given shape.params → at ≡ place + count → new ≡ put_all at (blank (shape.stack - count)) values
      → IsLaidOut place given shape values new (record { start = place; base = place })
  laid_in_place count at x e p q =
      let b = length_blank (shape.stack - count) in
      let m = taken_length count e in
      let l : length new ≡ length values = ap length q ∙ length_put_all (blank (shape.stack - count)) values at in
      let k = length_part place shape.stack values (omega (arith, room)) in
      let z : place - place ≡ 0 = omega arith in
      record {
        front = ap (take place) q ∙ take_put_all (blank (shape.stack - count)) values place at (omega (arith, p));
        length_stays = l;
        start_at_least = le_refl _;
        base_at_least = le_refl _;
        end = omega (arith, l, room);
        registers = ap (part place shape.stack) q ∙ part_put_in (blank (shape.stack - count)) values place shape.stack count at p (omega (arith, b, e, fits))
            ∙ put_tail (blank (shape.stack - count)) (part place shape.stack values) count (omega (arith, b, k, e, fits))
            ∙ ap (λ l. l ++ blank (shape.stack - count)) (take_take (drop place values) count shape.stack (omega (arith, e, fits)) ∙ ap (λ n. take n (drop place values)) e ∙ sym (take_both shape.params given (drop place values)))
            ∙ ap (λ n. take shape.params arguments ++ blank (shape.stack - n)) (sym m);
        extras = ap (λ n. part place n new) z ∙ sym (no_extras shape given arguments arguments_length x);
      }

  -- where it keeps some, its parameters are copied behind them
  pub laid_behind : (base at : ℕ) (copied : List Kept) → (cond shape.vararg (given - shape.params) 0 ≡ 0 → ⊥) → base ≡ place + given → at ≡ base + shape.params → copied ≡ put_all base (part place shape.params values) values
      → new ≡ put_all at (blank (shape.stack - shape.params)) copied → IsLaidOut place given shape values new (record { start = place + shape.params; base = base })
  laid_behind base at copied n p q c e =
      let more = more_given shape given n in
      let vararg = more.0 in
      let less = more.1 in
      let Q = part place shape.params values in
      let B = blank (shape.stack - shape.params) in
      let k : length Q ≡ shape.params = length_part place shape.params values (omega (arith, room, less)) in
      let b : length B ≡ shape.stack - shape.params = length_blank (shape.stack - shape.params) in
      let j = length-append Q B in
      let w : new ≡ put_all base (Q ++ B) values = e ∙ ap (put_all at B) c ∙ put_append Q B values base at (omega (arith, q, k)) in
      let l : length new ≡ length values = ap length w ∙ length_put_all (Q ++ B) values base in
      let m = taken_length shape.params (omega (arith, less)) in
      let size : length (Q ++ B) ≡ shape.stack = omega (arith, j, k, b, fits) in
      let same : take base new ≡ take base values = ap (take base) w ∙ take_put_all (Q ++ B) values base base (le_refl _) in
      let first : take shape.params arguments ≡ Q = take_take (drop place values) shape.params given (omega (arith, less)) in
      let count : base - (place + shape.params) ≡ given - shape.params = omega (arith, p) in
      let a = arguments_length in
      let rest = length-drop shape.params arguments in
      record {
        front = sym (take_take new place base (omega (arith, p))) ∙ ap (take place) same ∙ take_take values place base (omega (arith, p));
        length_stays = l;
        start_at_least = omega arith;
        base_at_least = omega (arith, p, less);
        end = omega (arith, l, p, room);
        registers = ap (λ n. part base n new) (sym size) ∙ ap (part base (length (Q ++ B))) w ∙ part_put_all (Q ++ B) values base (omega (arith, size, p, room))
            ∙ ap (λ l. l ++ B) (sym first) ∙ ap (λ n. take shape.params arguments ++ blank (shape.stack - n)) (sym m);
        extras = ap (λ n. part (place + shape.params) n new) count
            ∙ part_kept (place + shape.params) (given - shape.params) base values new (omega (arith, p, less)) same
            ∙ sym (part_part place shape.params (given - shape.params) given values (omega (arith, less)))
            ∙ ap (λ n. take n (drop shape.params arguments)) (omega (arith, a, rest)) ∙ take_whole (drop shape.params arguments)
            ∙ ap (λ b. cond b (drop shape.params arguments) []) (sym vararg);
      }

-- the frame in the words of the machine

fitted_none : (n : ℕ) → fitted n [] ≡ nils n
fitted_none zero = refl
fitted_none (suc n) = ap (λ l. known nil ∷ l) (fitted_none n)

fitted_is : (n : ℕ) (vs : List Value) → length vs ≤ n → fitted n vs ≡ vs ++ nils (n - length vs)
fitted_is n [] l = let m : n - 0 ≡ n = omega arith in fitted_none n ∙ ap nils (sym m)
fitted_is zero (v ∷ vs) l = absurd (omega arith)
fitted_is (suc n) (v ∷ vs) l = let m : suc n - suc (length vs) ≡ n - length vs = omega arith in ap (λ l. v ∷ l) (fitted_is n vs (omega arith) ∙ ap (λ k. vs ++ nils k) (sym m))

pub fits_blank : (f : Kept → Value) (vs : List Kept) (n : ℕ) → f Nil ≡ known nil → length vs ≤ n → map f (padded n vs) ≡ fitted n (map f vs)
fits_blank f vs n z l =
    let k = length-map vs f in
    let e : n - length (map f vs) ≡ n - length vs = omega (arith, k) in
    map_more f vs (blank (n - length vs)) ∙ ap (λ l. map f vs ++ l) (map_blank f (n - length vs) z) ∙ ap (λ k. map f vs ++ nils k) (sym e) ∙ sym (fitted_is n (map f vs) (omega (arith, k)))

pub map_drop : (f : Kept → Value) (n : ℕ) (xs : List Kept) → map f (drop n xs) ≡ drop n (map f xs)
map_drop f zero xs = refl
map_drop f (suc n) [] = refl
map_drop f (suc n) (x ∷ xs) = map_drop f n xs

map_cond : (f : Kept → Value) (b : Bool) (xs : List Kept) → map f (cond b xs []) ≡ cond b (map f xs) []
map_cond f true xs = refl
map_cond f false xs = refl

-- what stands below a place
abbrev pub window_from : (place marks : ℕ) → Window
window_from place marks = record { start = place; base = place; kept = 0; size = 0; marks = marks; marked = 0 }

abbrev begun_frame : ℕ → List Value → List Value → Frame
begun_frame function registers varargs = lua (record { function = function; wait = running; own = record { pc = 0; registers = registers; varargs = varargs; pending = []; opened = 0 } })

module _ (values new : List Kept) (pending : List ℕ) (below : List Record) (place given marks : ℕ) (shape : Shape) (function : FuncId) (l : Layout)
    (s : AreStacked (length values) (length pending) below) (u : AllUnder (window_from place marks) below) (m : marks ≤ length pending) (h : IsLaidOut place given shape values new l) where
  abbrev begun : Record
  begun = begun_at function l shape.stack marks

  under_begun : AllUnder begun.window below
  under_begun = under_more (window_from place marks) begun.window below u h.start_at_least (le_refl _)

  pub begun_stands : IsStack new pending below begun
  begun_stands =
      let n = h.length_stays in
      record {
        stacked = stacked_longer (length values) (length pending) (length new) (length pending) (window_from place marks) below s u (omega (arith, n)) m;
        under = under_begun;
        within = record { extra = h.base_at_least; kept = le_refl _; end = h.end; marks_end = omega (arith, m) };
        whole = refl;
        none = tt;
      }

  begun_below : map (frame_at new pending) below ≡ map (frame_at values pending) below
  begun_below = below_kept values new pending pending place marks h.front refl (window_from place marks) below u (le_refl _) (le_refl _)

  begun_is : (f : Kept → Value) → f Nil ≡ known nil → (p : Prototype) → IsShapeOf p shape → shape.params ≤ shape.stack → frame_of f (frame_at new pending begun) ≡ new_frame function.0 p (map f (part place given values))
  begun_is f z p k fits =
      let A = part place given values in
      let n = length-take shape.params A in
      ap (λ l. begun_frame function.0 (map f l) (map f (part begun.window.start (begun.window.base - begun.window.start) new))) (no_blank shape.stack shape.stack (part begun.window.base shape.stack new) refl ∙ h.registers)
      ∙ ap (λ l. begun_frame function.0 (map f (padded shape.stack (take shape.params A))) (map f l)) h.extras
      ∙ ap (λ l. begun_frame function.0 l (map f (cond shape.vararg (drop shape.params A) [])))
      (fits_blank f (take shape.params A) shape.stack z (omega (arith, n, fits)) ∙ ap (fitted shape.stack) (map_take f shape.params A)
      ∙ ap (λ n. fitted n (take shape.params (map f A))) (sym k.size) ∙ ap (λ n. fitted p.own.stack (take n (map f A))) (sym k.params))
      ∙ ap (λ l. begun_frame function.0 (fitted p.own.stack (take p.own.params (map f A))) l)
      (map_cond f shape.vararg (drop shape.params A) ∙ ap (λ l. cond shape.vararg l []) (map_drop f shape.params A)
      ∙ ap (λ b. cond b (drop shape.params (map f A)) []) (sym k.is_vararg) ∙ ap (λ n. cond p.own.vararg (drop n (map f A)) []) (sym k.params))

  pub begun_frames : (f : Kept → Value) → f Nil ≡ known nil → (p : Prototype) → IsShapeOf p shape → shape.params ≤ shape.stack
      → map (frame_of f) (map (frame_at new pending) (below ++ begun ∷ [])) ≡ map (frame_of f) (map (frame_at values pending) below) ++ new_frame function.0 p (map f (part place given values)) ∷ []
  begun_frames f z p k fits =
      let B = map (frame_at values pending) below in
      ap (map (frame_of f)) (map_more (frame_at new pending) below (begun ∷ []) ∙ ap (λ b. b ++ frame_at new pending begun ∷ []) begun_below)
      ∙ map_more (frame_of f) B (frame_at new pending begun ∷ []) ∙ ap (λ g. map (frame_of f) B ++ g ∷ []) (begun_is f z p k fits)
