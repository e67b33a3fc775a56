-- A concatenation that is settled in memory: what is found is a string, and the world stands for the same.
use Rattle.std.proofs.Common.{◌≡◌, ℕ, ◌≤◌, List, [], ◌∷◌, ◌++◌, length, Option, Some, None, refl, ap, sym, subst, ◌∙◌, Bool, true, false, Result, Ok, Err, IfOk, OnOk, OnErr}
use Rattle.std.specs.Prelude.{cond, codes, nat_le}
use Rattle.std.proofs.lemmas.Result.{IfOk-weaker}
use Rattle.int_core.specs.Heap.{Heap}
use Rattle.int_core.specs.Operations.{found, ask, fault, asked, joined, concat, concat_on, does, text_of}
use Rattle.int_core.specs.Value.{greatest_string, string, Value, known, nth}
use Rattle.machine_core.specs.World.{World, Place, place_of}
use Rattle.machine_core.specs.Text.{args_of}
use Rattle.machine_core.specs.Moves.{settled as settled_in, made}
use Rattle.machine_sound.specs.Sound.{Sizes, Valid, Sound}
use Rattle.machine_sound.proofs.Lists.{bind_at}
use Rattle.machine_sound.proofs.Values.{le_of}
use Rattle.table_core.specs.Table.{Contents}
use Rattle.table_core.specs.declared.value.Value.{Value as Kept}
use Rattle.lua_heap.specs.declared.world.World.{World as Memory}
use Rattle.lua_heap.specs.Cells.{CellsAreListed}
use Rattle.lua_heap.specs.Changes.{Interns}
use Rattle.lua_heap.specs.Plain.{plain}
use Rattle.lua_heap.specs.Reading.{value}
use Rattle.lua_heap.specs.Strings.{interned}
use Rattle.lua_heap.proofs.Growing.{interns}
use Rattle.meta_ops.specs.declared.outcome.Outcome.{Outcome}
use Rattle.meta_ops.specs.declared.outcome.Outcome.TheVariants.{Found, Done, Ask, Fault}
use Rattle.meta_ops.specs.Concat.{with_joined}
use Rattle.meta_ops.specs.Heap.{heap_in, IsIn}
use Rattle.meta_ops.specs.Law.{OperandsAreThere}
use Rattle.meta_ops.specs.Outcome.{settled, is_done}
use Rattle.move_laws.specs.Memory.{HasFrame, IsSound, ReadsSame}
use Rattle.machine_moves.specs.Operations.{values_of, told_of}
use Rattle.machine_operations.specs.Joining.{Concats}

-- what a concatenation finds is one string

pub record IsText (vs : List Value) : Type 0 where
  pub text : List ℕ
  pub is : vs ≡ known (string text) ∷ []
  pub short : length text ≤ greatest_string

found_values : {H K : Heap} {vs ws : List Value} → found H vs ≡ found K ws → vs ≡ ws
found_values {vs = vs} e = ap (λ s. elim s as (λ _. List Value) [ found H us ↦ us | _ ↦ vs ]) e

joined_found : (H K : Heap) (text : List ℕ) (vs : List Value) → joined H text ≡ found K vs → IsText vs
joined_found H K text vs e = by (nat_le (length text) greatest_string) refl e
  where
    by : (b : Bool) → nat_le (length text) greatest_string ≡ b → cond b (found H (known (string text) ∷ [])) (fault (codes "resulting string too large")) ≡ found K vs → IsText vs
    by true q e = record { text = text; is = sym (found_values e); short = le_of (length text) greatest_string q }
    by false q e = absurd (cc)

none_found : (o : Option Value) (arguments : List Value) (text : List ℕ) (K : Heap) (vs : List Value) → asked o arguments (fault text) ≡ found K vs → ⊥
none_found (Some h) arguments text K vs e = cc
none_found None arguments text K vs e = cc

pub concat_found : (H K : Heap) (a b : Option (List ℕ)) (l r : Value) (vs : List Value) → concat_on H a b l r ≡ found K vs → IsText vs
concat_found H K (Some s) (Some t) l r vs e = joined_found H K (s ++ t) vs e
concat_found H K (Some s) None l r vs e = absurd (none_found _ _ _ K vs e)
concat_found H K None b l r vs e = absurd (none_found _ _ _ K vs e)

module _ (texts : List (List ℕ)) (tables : List Contents) (H K : Heap) (more : List Value) (a b : Option (List ℕ)) (l r : Value) where
  abbrev here : Sizes
  here = record { primitives = 0; tables = length tables; functions = []; cells = 0; coroutines = 0 }

  found_there : OperandsAreThere → (o : Outcome) → concat_on H a b l r ≡ settled texts K more o → (v : Kept) → o ≡ Found v → IsIn texts tables v
  found_there law o d v e =
      let t = concat_found H K a b l r (value texts v ∷ []) (d ∙ ap (settled texts K more) e) in
      let is : value texts v ≡ known (string t.text) = ap (λ vs. nth vs 0) t.is in
      law here texts tables v refl (subst (Valid here) (sym is) t.short)

  not_done : (o : Outcome) → concat_on H a b l r ≡ settled texts K more o → is_done o ≡ false
  not_done (Found v) d = refl
  not_done Done d = absurd (let t = concat_found H K a b l r [] d in let e = t.is in cc)
  not_done (Ask handler first) d = refl
  not_done (Fault cause) d = refl

-- where a handler is asked for, an operand has no text

none_asked : (H : Heap) (text : List ℕ) (h : Value) (arguments : List Value) → joined H text ≡ ask h arguments → ⊥
none_asked H text h arguments e = by (nat_le (length text) greatest_string) e
  where
    by : (b : Bool) → cond b (found H (known (string text) ∷ [])) (fault (codes "resulting string too large")) ≡ ask h arguments → ⊥
    by true q = cc
    by false q = cc

pub asked_same : (texts : List (List ℕ)) (H : Heap) (a b : Option (List ℕ)) (l r h : Value) (arguments : List Value) → concat_on H a b l r ≡ ask h arguments → with_joined texts a b ≡ texts
asked_same texts H (Some s) (Some t) l r h arguments e = absurd (none_asked H (s ++ t) h arguments e)
asked_same texts H (Some s) None l r h arguments e = refl
asked_same texts H None b l r h arguments e = refl

ok_both : {B E : Type 0} {P R : B → Type 0} {Q : Type 0} (r : Result B E) → IfOk r P → OnOk r Q → ((b : B) → P b → Q → R b) → IfOk r R
ok_both (Ok b) p q f = f b p q
ok_both (Err e) p q f = tt

-- the world after it

pub sound_same : {old new : Memory} {text : List ℕ} → IsSound old → Interns old new text → ReadsSame old new × IsSound new
sound_same {old} {new} s i =
    let e : plain new 0 ≡ plain old 0 = i.plain s.primitives 0 s.sound in (
      record { is = λ fuel. ap (λ (V : World). record V { fuel = fuel }) e },
      record { primitives = s.primitives; sound = subst (Sound s.primitives) (sym e) s.sound; order = record { codes = i.codes s.order.codes; listed = subst CellsAreListed (sym i.rest) s.order.listed } },
    )

with_text : (old : Memory) (text : List ℕ) (b : Bool) (new : Memory) → IsSound old → new ≡ record old { strings = cond b (interned old.strings text) old.strings } → ReadsSame old new × IsSound new
with_text old text true new s e = sound_same s (interns old new text e)
with_text old text false new s e = (record { is = λ fuel. ap (λ W. plain W fuel) e }, subst IsSound (sym e) s)

joined_same : (old : Memory) (a b : Option (List ℕ)) (new : Memory) → IsSound old → new ≡ record old { strings = with_joined old.strings a b } → ReadsSame old new × IsSound new
joined_same old (Some s) (Some t) new h e = with_text old (s ++ t) (nat_le (length (s ++ t)) greatest_string) new h e
joined_same old (Some s) None new h e = (record { is = λ fuel. ap (λ W. plain W fuel) e }, subst IsSound (sym e) h)
joined_same old None b new h e = (record { is = λ fuel. ap (λ W. plain W fuel) e }, subst IsSound (sym e) h)

abbrev pub with_strings : Memory → List (List ℕ) → Memory
with_strings old texts = record old { strings = texts }

concat_same : {B E : Type 0} (r : Result B E) (old : Memory) (texts : List (List ℕ)) (a b : Option (List ℕ)) → IsSound old → OnOk r (texts ≡ with_joined old.strings a b) → OnErr r (texts ≡ old.strings)
    → ReadsSame old (with_strings old texts) × IsSound (with_strings old texts)
concat_same (Ok x) old texts a b s e f = joined_same old a b (with_strings old texts) s (ap (with_strings old) e)
concat_same (Err x) old texts a b s e f = (record { is = λ fuel. ap (λ texts. plain (with_strings old texts) fuel) f }, subst IsSound (sym (ap (with_strings old) f)) s)

-- the move

settled_same : (V : World) (p : Place) (texts : List (List ℕ)) (more : List Value) (o : Outcome) → settled_in V p (settled texts V.heap more o) ≡ made V (values_of texts more o) (told_of texts o)
settled_same V p texts more (Found v) = refl
settled_same V p texts more Done = refl
settled_same V p texts more (Ask handler first) = refl
settled_same V p texts more (Fault cause) = refl

concats : (old new : Memory) (left right : Kept) (o : Outcome) → HasFrame old → ReadsSame old new
    → concat_on (heap_in old.strings old.tables.objects old.string_meta) (text_of (value old.strings left)) (text_of (value old.strings right)) (value old.strings left) (value old.strings right)
    ≡ settled new.strings (heap_in old.strings old.tables.objects old.string_meta) (value old.strings right ∷ []) o
    → new.strings ≡ with_joined old.strings (text_of (value old.strings left)) (text_of (value old.strings right))
    → ((v : Kept) → o ≡ Found v → IsIn new.strings new.tables.objects v) → Concats old new left right o
concats old new left right o h r d w t = record {
  makes = λ env xs e. record {
    is = λ fuel.
        let V = plain old fuel in
        let more = value old.strings right ∷ [] in
        bind_at (λ p. settled_in V p (does concat (args_of env xs) V.heap)) (place_of V) h.place h.is
        ∙ ap (λ vs. settled_in V h.place (does concat vs V.heap)) e
        ∙ ap (settled_in V h.place) d
        ∙ settled_same V h.place new.strings more o
        ∙ ap (λ V. made V (values_of new.strings more o) (told_of new.strings o)) (sym (r.is fuel));
  };
  there = t;
  asked = λ handler object e.
      let l = value old.strings left in
      let r = value old.strings right in
      let H = heap_in old.strings old.tables.objects old.string_meta in
      w ∙ asked_same old.strings H (text_of l) (text_of r) l r (value new.strings handler) (value new.strings object ∷ r ∷ []) (d ∙ ap (settled new.strings H (r ∷ [])) e);
}

-- an operand before what has been joined, in the world that a concatenation leaves

module _ {E : Type 0} (W : Memory) (texts : List (List ℕ)) (left right : Kept) (result : Result Outcome E) where
  abbrev l : Value
  l = value W.strings left

  abbrev r : Value
  r = value W.strings right

  abbrev H : Heap
  H = heap_in W.strings W.tables.objects W.string_meta

  abbrev Does : Outcome → Type 0
  Does o = concat_on H (text_of l) (text_of r) l r ≡ settled texts H (r ∷ []) o

  abbrev Adds : Type 0
  Adds = texts ≡ with_joined W.strings (text_of l) (text_of r)

  pub joins_so : HasFrame W → IsSound W → OperandsAreThere → IfOk result Does → OnOk result Adds → OnErr result (texts ≡ W.strings) → IfOk result (λ o. Concats W (with_strings W texts) left right o)
  joins_so h s law does adds err =
      let same = concat_same result W texts (text_of l) (text_of r) s adds err in
      ok_both result does adds (λ o d w. concats W (with_strings W texts) left right o h same.0 d w (found_there texts W.tables.objects H H (r ∷ []) (text_of l) (text_of r) l r law o d))

  pub ends_there : IfOk result Does → IfOk result (λ o. is_done o ≡ false)
  ends_there does = IfOk-weaker result _ _ (λ o d. not_done texts W.tables.objects H H (r ∷ []) (text_of l) (text_of r) l r o d) does

  pub stays_so : IsSound W → OnOk result Adds → OnErr result (texts ≡ W.strings) → ReadsSame W (with_strings W texts) × IsSound (with_strings W texts)
  stays_so s adds err = concat_same result W texts (text_of l) (text_of r) s adds err
