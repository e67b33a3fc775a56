-- A set that keeps the order of insertion is the list of what was met.
use Rattle.std.proofs.Common.{◌≡◌, ℕ, suc, ◌+◌, List, [], ◌∷◌, ◌++◌, Some, None, map, take, Bool, true, false, cond, refl, sym, ap, ◌∙◌, subst, arith, ⊎_elim, Result, Ok, Err, OnOk}
use Rattle.std.specs.Prelude.{nat_eq, flat_map, slice_get, ◌||◌}
use Rattle.std.specs.List.{list_any}
use Rattle.std.proofs.lemmas.Grind.{flat_map-append}
use Rattle.std.proofs.lemmas.Bool.Decides.{eqb_tells}
use Rattle.list_laws.proofs.Items.{append_nil}
use Rattle.indexmap.specs.IndexSet.{insert_key}
use Rattle.int_core.specs.Value.{a_coroutine}
use Rattle.image_core.specs.Visit.{met, add_new}
use Rattle.image_core.specs.Records.{Field, Part, an_object, same_part, field_parts}
use Rattle.lua_stack.proofs.Parts.{take_next}
use Rattle.graph_core.specs.declared.object.Object.{Object}
use Rattle.graph_core.specs.declared.object.Sort.{Sort}
use Rattle.graph_core.specs.declared.object.Sort.TheVariants.{Table, Func, Cell, Coro}
use Rattle.graph_core.specs.declared.walk.Walk.{Walk}
use Rattle.graph_core.specs.contracts.object.ObjectPartialEq.TheImpl as object_impl
use Rattle.graph_core.specs.Cells.{coroutine_inside}
use Rattle.graph_core.specs.Objects.{part, part_of, Meets}
use Rattle.graph_core.specs.Walk.{MeetsFields, MeetsPart, name_in}

abbrev pub object_eq : Object → Object → Bool
object_eq = (object_impl.ghosts).eq

pub equal_turned : (a b : ℕ) → nat_eq a b ≡ nat_eq b a
equal_turned a b = ⊎_elim
    (λ s. ⊎_elim (λ t. s.0 ∙ sym t.0) (λ t. absurd (t.1 (sym s.1))) (eqb_tells b a))
    (λ s. ⊎_elim (λ t. absurd (s.1 (sym t.1))) (λ t. s.0 ∙ sym t.0) (eqb_tells b a))
    (eqb_tells a b)

pub object_same : (a b : Object) → object_eq a b ≡ same_part (part b) (part a)
object_same a b = go a.sort b.sort a.number b.number
  where
    go : (s t : Sort) (m n : ℕ) → object_eq (record { sort = s; number = m }) (record { sort = t; number = n }) ≡ same_part (part_of t n) (part_of s m)
    go Table Table m n = equal_turned m n
    go Func Func m n = equal_turned m n
    go Cell Cell m n = equal_turned m n
    go Coro Coro m n = equal_turned m n
    go _ _ m n = refl

pub met_any : (xs : List Object) (o : Object) → list_any (object_eq o) xs ≡ met same_part (map part xs) (part o)
met_any [] o = refl
met_any (x ∷ xs) o = rw (object_same o x) (go (same_part (part x) (part o)) (met_any xs o))
  where
    go : (b : Bool) → list_any (object_eq o) xs ≡ met same_part (map part xs) (part o) → b || list_any (object_eq o) xs ≡ cond b true (met same_part (map part xs) (part o))
    go true h = refl
    go false h = h

pub inside_is : (keys : List Object) (n : ℕ) (b : Bool) → list_any (object_eq (record { sort = Coro; number = n })) keys ≡ b
    → coroutine_inside (λ co. met same_part (map part keys) (an_object a_coroutine co)) n ≡ cond b (Some (record { sort = Coro; number = n })) None
inside_is keys n b h = ap (λ b. cond b (Some (record { sort = Coro; number = n })) None) (sym (met_any keys (record { sort = Coro; number = n })) ∙ h)

pub map_more : {A B : Type 0} (f : A → B) (xs ys : List A) → map f (xs ++ ys) ≡ map f xs ++ map f ys
map_more f [] ys = refl
map_more f (x ∷ xs) ys = ap (λ l. f x ∷ l) (map_more f xs ys)

pub inserted : (xs : List Object) (o : Object) → map part (insert_key object_eq xs o) ≡ add_new same_part (map part xs) (part o ∷ [])
inserted xs o = ap (λ b. map part (cond b xs (xs ++ o ∷ []))) (met_any xs o) ∙ go (met same_part (map part xs) (part o))
  where
    go : (b : Bool) → map part (cond b xs (xs ++ o ∷ [])) ≡ cond b (map part xs) (map part xs ++ part o ∷ [])
    go true = refl
    go false = map_more part xs (o ∷ [])

add_more : (xs ps qs : List Part) → add_new same_part xs (ps ++ qs) ≡ add_new same_part (add_new same_part xs ps) qs
add_more xs [] qs = refl
add_more xs (p ∷ ps) qs = add_more (cond (met same_part xs p) xs (xs ++ p ∷ [])) ps qs

pub meets_both : (a b c : List Object) (ps qs : List Part) → Meets a b ps → Meets b c qs → Meets a c (ps ++ qs)
meets_both a b c ps qs h k = k ∙ ap (λ l. add_new same_part l qs) h ∙ sym (add_more (map part a) ps qs)

pub fields_as : (w : Walk) (a b : List Object) (fs gs : List Field) → fs ≡ gs → MeetsFields w a b fs → MeetsFields w a b gs
fields_as w a b fs gs e h = subst (λ l. MeetsFields w a b l) e h

-- what is met after what was met
pub fields_both : (w : Walk) (a b c : List Object) (fs gs : List Field) → MeetsFields w a b fs → MeetsFields w b c gs → MeetsFields w a c (fs ++ gs)
fields_both w a b c fs gs h k =
    let F = field_parts (name_in w) in
    subst (λ ps. Meets a c ps) (sym (flat_map-append F fs gs)) (meets_both a b c (flat_map F fs) (flat_map F gs) h k)

pub one_more : {A : Type 0} (w : Walk) (f : A → List Field) (a b c : List Object) (n : ℕ) (xs : List A) (x : A) → slice_get xs n ≡ Some x
    → MeetsFields w a b (flat_map f (take n xs)) → MeetsFields w b c (f x) → MeetsFields w a c (flat_map f (take (n + 1) xs))
one_more w f a b c n xs x g h k =
    let on : n + 1 ≡ suc n = omega arith in
    fields_as w a c (flat_map f (take n xs) ++ f x) (flat_map f (take (n + 1) xs))
    (ap (λ l. flat_map f (take n xs) ++ l) (sym (append_nil (f x))) ∙ sym (flat_map-append f (take n xs) (x ∷ [])) ∙ ap (flat_map f) (sym (take_next n xs x g)) ∙ ap (λ m. flat_map f (take m xs)) (sym on))
    (fields_both w a b c (flat_map f (take n xs)) (f x) h k)

pub on_ok : {B E : Type 0} {P Q : Type 0} (o : Result B E) → OnOk o P → (P → Q) → OnOk o Q
on_ok (Ok b) p f = f p
on_ok (Err e) p f = tt

-- the part of an object whose sort is known
pub of_sort : {B E : Type 0} (w : Walk) (a b : List Object) (s t : Sort) (n : ℕ) (o : Result B E) → s ≡ t → OnOk o (MeetsPart w a b (part_of t n)) → OnOk o (MeetsPart w a b (part_of s n))
of_sort w a b s t n o e h = subst (λ u. OnOk o (MeetsPart w a b (part_of u n))) (sym e) h

-- maps

pub singles : {A B : Type 0} (f : A → B) (xs : List A) → flat_map (λ x. f x ∷ []) xs ≡ map f xs
singles f [] = refl
singles f (x ∷ xs) = ap (λ l. f x ∷ l) (singles f xs)

pub map_twice : {A B C : Type 0} (f : B → C) (g : A → B) (xs : List A) → map f (map g xs) ≡ map (λ x. f (g x)) xs
map_twice f g [] = refl
map_twice f g (x ∷ xs) = ap (λ l. f (g x) ∷ l) (map_twice f g xs)

pub flat_twice : {A B C : Type 0} (f : B → List C) (g : A → B) (xs : List A) → flat_map f (map g xs) ≡ flat_map (λ x. f (g x)) xs
flat_twice f g [] = refl
flat_twice f g (x ∷ xs) = ap (λ l. f (g x) ++ l) (flat_twice f g xs)
