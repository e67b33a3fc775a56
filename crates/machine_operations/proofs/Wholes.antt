-- Operands with texts come at once to what they come to one after another.
use Rattle.std.proofs.Common.{◌≡◌, ℕ, suc, ◌+◌, ◌<◌, ◌≤◌, List, [], ◌∷◌, ◌++◌, length, Some, refl, ap, sym, subst, ◌∙◌, arith, append_assoc, length-append}
use Rattle.std.specs.Prelude.{codes, cond, slice_get}
use Rattle.int_core.specs.Heap.{Heap}
use Rattle.int_core.specs.Operations.{concat, concat_on, does, fault, found, text_of}
use Rattle.int_core.specs.Value.{Value, greatest_string, known, nth, shape, string}
use Rattle.machine_core.specs.World.{World, Place, for_concat, place_of}
use Rattle.machine_core.specs.Text.{Arg, args_of, operate, read, read_register}
use Rattle.machine_core.specs.InstructionRows.{joins, to_register}
use Rattle.machine_core.specs.FrameRows.{When, calls_row, expand_by, prepares, raises}
use Rattle.machine_core.specs.Moves.{SettledShape, Row, is_asked, is_fault, is_found, made, move, on_own, only, run, settle, settled as settled_in}
use Rattle.machine_sound.proofs.Lists.{bind_at}
use Rattle.machine_sound.proofs.RowEnds.{drop_front}
use Rattle.machine_sound.proofs.Values.{le_true, lt_of, lt_true}
use Rattle.table_core.specs.Table.{Contents}
use Rattle.table_core.specs.declared.value.StrId.{StrId}
use Rattle.table_core.specs.declared.value.Value.{Value as Kept}
use Rattle.table_core.specs.declared.value.Value.TheVariants.{Str}
use Rattle.lua_heap.specs.declared.world.World.{World as Memory}
use Rattle.lua_heap.specs.Plain.{plain}
use Rattle.lua_heap.specs.Reading.{text_or, value}
use Rattle.meta_ops.specs.Concat.{AppendsText, IsString}
use Rattle.meta_ops.specs.Heap.{IsIn}
use Rattle.move_laws.specs.Memory.{CanDo, HasFrame, Makes, ReadsSame}
use Rattle.move_laws.proofs.Rows.{act_is}
use Rattle.machine_operations.specs.declared.joining.Joined.TheVariants.{Whole}
use Rattle.machine_operations.specs.Joining.{Joins, Names}
use Rattle.machine_operations.specs.WholeTexts.{AreTexts, AreWhole, HasText, no_texts, one_text}
use Rattle.list_laws.proofs.Values.{nth_mid}

-- a string's number is that of a string
pub is_string : (texts : List (List ℕ)) (tables : List Contents) (v : Kept) → IsIn texts tables v → IsString texts v
is_string texts tables (Str id) h = h
is_string texts tables _ h = tt

-- a register below one that can be read
pub lower_read : (W : Memory) (r q : ℕ) → q ≤ r → CanDo W (read_register r) → CanDo W (read_register q)
lower_read W r q l h =
    let n = length h.place.top.own.registers in
    let m : r < n = lt_of r n h.fits in
    record { place = h.place; is = h.is; fits = lt_true q n (omega (arith, l, m)) }

-- one operand more
pub one_more : (W : Memory) (first below : ℕ) (old new : List ℕ) (v : Kept) → AreTexts W first below old
    → ((env : List Value) → Makes W W (on_own (read_register (first + below))) env (value W.strings v ∷ []) (shape (value W.strings v))) → AppendsText W.strings old new v → AreTexts W first (below + 1) new
one_more W first below old new v are reads p =
    let e : suc below ≡ below + 1 = omega arith in
    subst (λ n. AreTexts W first n new) e
    (subst (AreTexts W first (suc below)) (sym p.is) (one_text below old p.piece are (record { operand = v; reads = reads; has = p.has })))

-- two texts that are joined

concat_is : (H : Heap) (v w : Value) (s t : List ℕ) → text_of v ≡ Some s → text_of w ≡ Some t → length (s ++ t) ≤ greatest_string → does concat (v ∷ w ∷ []) H ≡ found H (known (string (s ++ t)) ∷ [])
concat_is H v w s t has_s has_t short =
    ap (λ o. concat_on H o (text_of w) v w) has_s
    ∙ ap (λ o. concat_on H (Some s) o v w) has_t
    ∙ ap (λ b. cond b (found H (known (string (s ++ t)) ∷ [])) (fault (codes "resulting string too large"))) (le_true (length (s ++ t)) greatest_string short)

found_same : (V : World) (p : Place) (vs : List Value) → settled_in V p (found V.heap vs) ≡ made V vs is_found
found_same V p vs = refl

settles : (V : World) (p : Place) → place_of V ≡ Some p → (env : List Value) (xs : List Arg) (v w : Value) (s t : List ℕ) → args_of env xs ≡ v ∷ w ∷ [] → text_of v ≡ Some s → text_of w ≡ Some t
    → length (s ++ t) ≤ greatest_string → move (settle concat xs) env V ≡ made V (known (string (s ++ t)) ∷ []) is_found
settles V p at env xs v w s t names has_s has_t short =
    bind_at (λ p. settled_in V p (does concat (args_of env xs) V.heap)) (place_of V) p at
    ∙ ap (λ vs. settled_in V p (does concat vs V.heap)) names
    ∙ ap (settled_in V p) (concat_is V.heap v w s t has_s has_t short)
    ∙ found_same V p (known (string (s ++ t)) ∷ [])

abbrev goes_by : When → (first below : ℕ) → ℕ → SettledShape → Row
goes_by when first below n s = elim s [
  | is_found ↦ prepares [] (only n (expand_by when (joins first below (read 0))))
  | is_asked ↦ calls_row when (read n) (suc n) (for_concat below) []
  | is_fault text ↦ prepares [] (raises text)
]

near : (front piece t : List ℕ) → length ((front ++ piece) ++ t) ≤ greatest_string → length (piece ++ t) ≤ greatest_string
near front piece t h =
    let l = length-append front piece in
    let m = length-append (front ++ piece) t in
    let q = length-append piece t in
    omega (arith, l, m, q, h)

module _ (when : When) (W : Memory) (h : HasFrame W) (first : ℕ) where
  -- an operand is put in front of what is named as the first value
  step : (n : ℕ) (piece t : List ℕ) (w : Value) (k : HasText W (first + n) piece) → text_of w ≡ Some t → length (piece ++ t) ≤ greatest_string → (env : List Value)
      → nth (env ++ value W.strings k.operand ∷ []) 0 ≡ w → (fuel : ℕ)
      → run (expand_by when (joins first (suc n) (read 0))) env (plain W fuel) ≡ run (expand_by when (joins first n (read 0))) (known (string (piece ++ t)) ∷ []) (plain W fuel)
  step n piece t w k has short env named fuel =
      let u = value W.strings k.operand in
      let e = env ++ u ∷ [] in
      let xs = read (length env) ∷ read 0 ∷ [] in
      let V = plain W fuel in
      let whole = known (string (piece ++ t)) ∷ [] in
      let names : args_of e xs ≡ u ∷ w ∷ [] = ap (λ v. v ∷ nth e 0 ∷ []) (nth_mid env [] u) ∙ ap (λ v. u ∷ v ∷ []) named in
      act_is (on_own (read_register (first + n))) (λ u _. expand_by when (operate concat (read u ∷ read 0 ∷ []) (for_concat n) [] (joins first n (read 0)))) env V V (u ∷ []) (shape u) ((k.reads env).is fuel)
      ∙ act_is (settle concat xs) (goes_by when first n) e V V whole is_found (settles V h.place h.is e xs u w piece t names k.has has short)
      ∙ ap (λ env. run (expand_by when (joins first n (read 0))) env V) (drop_front e whole)

  -- all that stand in front of a text
  all_joined : (n : ℕ) (front : List ℕ) → AreTexts W first n front → (t : List ℕ) → length (front ++ t) ≤ greatest_string → (fuel : ℕ)
      → run (expand_by when (joins first n (read 0))) (known (string t) ∷ []) (plain W fuel) ≡ run (expand_by when (to_register first (read 0))) (known (string (front ++ t)) ∷ []) (plain W fuel)
  all_joined _ _ no_texts t short fuel = refl
  all_joined _ _ (one_text n front piece are k) t short fuel =
      let whole : length (front ++ (piece ++ t)) ≤ greatest_string = subst (λ x. length x ≤ greatest_string) (append_assoc front piece t) short in
      step n piece t (known (string t)) k refl (near front piece t short) (known (string t) ∷ []) refl fuel
      ∙ all_joined n front are (piece ++ t) whole fuel
      ∙ ap (λ x. run (expand_by when (to_register first (read 0))) (known (string x) ∷ []) (plain W fuel)) (sym (append_assoc front piece t))

  -- the last value may be an integer
  first_then : (n : ℕ) (front : List ℕ) → AreTexts W first n front → 1 ≤ n → (last : Kept) (t : List ℕ) → text_of (value W.strings last) ≡ Some t → length (front ++ t) ≤ greatest_string
      → (env : List Value) → Names W first n env last → (fuel : ℕ)
      → run (expand_by when (joins first n (read 0))) env (plain W fuel) ≡ run (expand_by when (to_register first (read 0))) (known (string (front ++ t)) ∷ []) (plain W fuel)
  first_then _ _ no_texts some last t has short env named fuel = absurd (omega (arith, some))
  first_then _ _ (one_text n front piece are k) some last t has short env named fuel =
      let u = value W.strings k.operand in
      let whole : length (front ++ (piece ++ t)) ≤ greatest_string = subst (λ x. length x ≤ greatest_string) (append_assoc front piece t) short in
      step n piece t (value W.strings last) k has (near front piece t short) env (named u (shape u) k.reads) fuel
      ∙ all_joined n front are (piece ++ t) whole fuel
      ∙ ap (λ x. run (expand_by when (to_register first (read 0))) (known (string x) ∷ []) (plain W fuel)) (sym (append_assoc front piece t))

  whole_is : (count : ℕ) (last : Kept) (text : List ℕ) → AreWhole W first count last text → (env : List Value) → Names W first count env last → (fuel : ℕ)
      → run (expand_by when (joins first count (read 0))) env (plain W fuel) ≡ run (expand_by when (to_register first (read 0))) (known (string text) ∷ []) (plain W fuel)
  whole_is count last text a env named fuel =
      first_then count a.front a.are a.some last a.piece a.has (subst (λ x. length x ≤ greatest_string) a.is a.short) env named fuel
      ∙ ap (λ x. run (expand_by when (to_register first (read 0))) (known (string x) ∷ []) (plain W fuel)) (sym a.is)

-- and the string with this text is what they come to
pub whole_joined : (old new : Memory) (first count : ℕ) (last : Kept) (text : List ℕ) (id : StrId) → HasFrame old → AreWhole old first count last text → ReadsSame old new → slice_get new.strings id.0 ≡ Some text
    → Joins old new first count last (Whole (Str id))
whole_joined old new first count last text id h a same there = record {
  comes = λ when env named. record {
    more = known (string text) ∷ [];
    slot = 0;
    named = sym (ap (λ o. known (string (text_or id.0 o))) there);
    is = λ fuel.
        whole_is when old h first count last text a env named fuel
        ∙ ap (λ V. run (expand_by when (to_register first (read 0))) (known (string text) ∷ []) V) (sym (same.is fuel));
  };
}
