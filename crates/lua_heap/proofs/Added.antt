-- Functions and strings that are added behind those that are there.
use Rattle.std.proofs.Common.{◌≡◌, ⊎_elim, ℕ, zero, suc, ◌+◌, ◌<◌, ◌≤◌, List, [], ◌∷◌, ◌++◌, map, take, length, Some, Bool, true, false, refl, ap, sym, subst, ◌∙◌, append_assoc, length-append, arith}
use Rattle.std.specs.Prelude.{◌-◌, slice_get, get_or, set, bytes_eq, if◌then◌else◌}
use Rattle.std.specs.List.{list_all, list_any}
use Rattle.std.proofs.lemmas.Option.{slice_get_within}
use Rattle.std.proofs.lemmas.List.{map_push, take_at, take-append-le, get_or_at, set_at}
use Rattle.int_core.specs.Value.{known}
use Rattle.code_core.specs.declared.proto.Const.{Const}
use Rattle.code_core.specs.Prototype.{Prototype, prototypes, count}
use Rattle.code_core.specs.Check.{IsChecked, AllChecked}
use Rattle.code_core.specs.Writable.{constant_fits}
use Rattle.machine_core.specs.Text.{constant}
use Rattle.machine_core.specs.World.{World}
use Rattle.machine_sound.specs.Sound.{Sizes, sizes, Each, FunctionOk, Solid}
use Rattle.machine_sound.proofs.Lists.{get_front}
use Rattle.machine_sound.proofs.Values.{both_of}
use Rattle.list_laws.proofs.Tests.{split, both_true}
use Rattle.list_laws.proofs.Items.{append_nil, some_same, get_either}
use Rattle.table_core.specs.declared.value.ProtoId.{ProtoId}
use Rattle.table_core.specs.declared.value.Value.{Value as Kept}
use Rattle.lua_heap.specs.declared.codes.Code.{Code}
use Rattle.lua_heap.specs.declared.codes.Codes.{Codes}
use Rattle.lua_heap.specs.declared.codes.Tree.{Tree}
use Rattle.lua_heap.specs.declared.world.Func.{Func}
use Rattle.lua_heap.specs.declared.world.World.{World as Memory}
use Rattle.lua_heap.specs.Strings.{interned}
use Rattle.lua_heap.specs.Reading.{value}
use Rattle.lua_heap.specs.Codes.{preorder, numbers, functions_in, functions, AreFirsts, IsCode, AreCodes, code_or_none, prototype_at}
use Rattle.lua_heap.specs.Adding.{Begins, IsOwnCode, AreCodesFrom, AddsFunctions, AddsCode, KeepsCode}
use Rattle.lua_heap.specs.Plain.{function, plain}
use Rattle.lua_heap.proofs.Growing.{each_stays, plain_stays, constants_stay, code_stays}
use Rattle.lua_heap.proofs.Numbered.{length_preorder, get_behind, checked_there}

-- lists that begin with others

pub begins_same : {A : Type 0} (xs : List A) → Begins A xs xs
begins_same xs = record { more = []; is = sym (append_nil xs) }

pub begins_more : {A : Type 0} (xs ys zs : List A) → Begins A xs ys → Begins A ys zs → Begins A xs zs
begins_more xs ys zs g h = record { more = g.more ++ h.more; is = h.is ∙ ap (λ l. l ++ h.more) g.is ∙ append_assoc xs g.more h.more }

-- and that come back to them
pub begins_taken : {A : Type 0} (xs ys : List A) (n : ℕ) → Begins A xs ys → n ≡ length xs → take n ys ≡ xs
begins_taken xs ys n b e = ap (take n) b.is ∙ take_at xs b.more n (sym e)

begins_by : (texts : List (List ℕ)) (s : List ℕ) (b : Bool) → Begins (List ℕ) texts (if b then texts else texts ++ s ∷ [])
begins_by texts s true = begins_same texts
begins_by texts s false = record { more = s ∷ []; is = refl }

pub begins_interned : (old new : List (List ℕ)) (s : List ℕ) → new ≡ interned old s → Begins (List ℕ) old new
begins_interned old new s e = subst (Begins (List ℕ) old) (sym e) (begins_by old s (list_any (bytes_eq s) old))

-- what one new string keeps, more of them keep
grown : (P : List (List ℕ) → Type 0) → ((texts : List (List ℕ)) (s : List ℕ) → P texts → P (texts ++ s ∷ [])) → (texts more : List (List ℕ)) → P texts → P (texts ++ more)
grown P step texts [] h = subst P (sym (append_nil texts)) h
grown P step texts (s ∷ more) h = subst P (append_assoc texts (s ∷ []) more) (grown P step (texts ++ s ∷ []) more (step texts s h))

kept_on : (P : List (List ℕ) → Type 0) → ((texts : List (List ℕ)) (s : List ℕ) → P texts → P (texts ++ s ∷ [])) → (old new : List (List ℕ)) → Begins (List ℕ) old new → P old → P new
kept_on P step old new b h = subst P (sym b.is) (grown P step old b.more h)

-- constants

pub fits_take : (n : ℕ) (ks : List Const) → list_all constant_fits ks ≡ true → list_all constant_fits (take n ks) ≡ true
fits_take zero ks h = refl
fits_take (suc n) [] h = refl
fits_take (suc n) (k ∷ ks) h = let b = both_of (constant_fits k) (list_all constant_fits ks) h in both_true (constant_fits k) (list_all constant_fits (take n ks)) b.0 (fits_take n ks b.1)

abbrev AreValues : List (List ℕ) → List Kept → List Const → Type 0
AreValues texts vs ks = map (value texts) vs ≡ map (λ k. known (constant k)) ks

pub values_kept : (old new : List (List ℕ)) (vs : List Kept) (ks : List Const) → list_all constant_fits ks ≡ true → Begins (List ℕ) old new
    → map (value old) vs ≡ map (λ k. known (constant k)) ks → map (value new) vs ≡ map (λ k. known (constant k)) ks
values_kept old new vs ks f b h = kept_on (λ texts. AreValues texts vs ks) (λ texts s e. constants_stay texts s vs ks f e ∙ e) old new b h

pub one_value_more : (texts : List (List ℕ)) (vs : List Kept) (v : Kept) (ks : List Const) (k : Const) → map (value texts) vs ≡ map (λ k. known (constant k)) ks → value texts v ≡ known (constant k)
    → map (value texts) (vs ++ v ∷ []) ≡ map (λ k. known (constant k)) (ks ++ k ∷ [])
one_value_more texts vs v ks k h e =
    map_push (value texts) vs v ∙ ap (λ l. l ++ value texts v ∷ []) h ∙ ap (λ x. map (λ (k : Const). known (constant k)) ks ++ x ∷ []) e ∙ sym (map_push (λ (k : Const). known (constant k)) ks k)

-- functions beside each other

codes_kept : (texts : List (List ℕ)) (s : List ℕ) (n : ℕ) (ps : List Prototype) (cs : List Code) → AreCodesFrom texts n ps cs → AreCodesFrom (texts ++ s ∷ []) n ps cs
codes_kept texts s n [] [] h = h
codes_kept texts s n [] (c ∷ cs) h = h
codes_kept texts s n (p ∷ ps) [] h = h
codes_kept texts s n (p ∷ ps) (c ∷ cs) h = (code_stays texts s n p c h.0, codes_kept texts s (suc n) ps cs h.1)

same_length : (texts : List (List ℕ)) (n : ℕ) (ps : List Prototype) (cs : List Code) → AreCodesFrom texts n ps cs → length cs ≡ length ps
same_length texts n [] [] h = refl
same_length texts n [] (c ∷ cs) h = absurd h
same_length texts n (p ∷ ps) [] h = absurd h
same_length texts n (p ∷ ps) (c ∷ cs) h = ap suc (same_length texts (suc n) ps cs h.1)

joined : (texts : List (List ℕ)) (n : ℕ) (ps qs : List Prototype) (cs ds : List Code) → AreCodesFrom texts n ps cs → AreCodesFrom texts (n + length cs) qs ds → AreCodesFrom texts n (ps ++ qs) (cs ++ ds)
joined texts n [] qs [] ds h k = let e : n + 0 ≡ n = omega arith in subst (λ m. AreCodesFrom texts m qs ds) e k
joined texts n [] qs (c ∷ cs) ds h k = absurd h
joined texts n (p ∷ ps) qs [] ds h k = absurd h
joined texts n (p ∷ ps) qs (c ∷ cs) ds h k =
    let e : n + suc (length cs) ≡ suc n + length cs = omega arith in
    (h.0, joined texts (suc n) ps qs cs ds h.1 (subst (λ m. AreCodesFrom texts m qs ds) e k))

each_from : (texts : List (List ℕ)) (n : ℕ) (ps : List Prototype) (cs : List Code) → AreCodesFrom texts n ps cs
    → (m : ℕ) (p : Prototype) (c : Code) → slice_get ps m ≡ Some p → slice_get cs m ≡ Some c → IsCode texts (n + m) p c
each_from texts n [] cs h m p c e f = absurd (cc)
each_from texts n (q ∷ ps) [] h m p c e f = absurd (cc)
each_from texts n (q ∷ ps) (d ∷ cs) h zero p c e f =
    let here : n ≡ n + 0 = omega arith in
    subst (λ m. IsCode texts m p c) here (subst (λ (b : Code). IsCode texts n p b) (some_same d c f) (subst (λ (r : Prototype). IsCode texts n r d) (some_same q p e) h.0))
each_from texts n (q ∷ ps) (d ∷ cs) h (suc m) p c e f =
    let on : suc n + m ≡ n + suc m = omega arith in
    subst (λ k. IsCode texts k p c) on (each_from texts (suc n) ps cs h.1 m p c e f)

preorder_append : (ps qs : List Prototype) → preorder (prototypes (ps ++ qs)) ≡ preorder (prototypes ps) ++ preorder (prototypes qs)
preorder_append [] qs = refl
preorder_append (p ∷ ps) qs =
    ap (λ l. (p ∷ preorder p.inner) ++ l) (preorder_append ps qs) ∙ sym (append_assoc (p ∷ preorder p.inner) (preorder (prototypes ps)) (preorder (prototypes qs)))

preorder_push : (ps : List Prototype) (p : Prototype) → preorder (prototypes (ps ++ p ∷ [])) ≡ preorder (prototypes ps) ++ (p ∷ preorder p.inner)
preorder_push ps p = preorder_append ps (p ∷ []) ∙ ap (λ l. preorder (prototypes ps) ++ (p ∷ l)) (append_nil (preorder p.inner))

numbers_push : (n : ℕ) (ps : List Prototype) (p : Prototype) → numbers n (prototypes (ps ++ p ∷ [])) ≡ numbers n (prototypes ps) ++ (n + count (prototypes ps)) ∷ []
numbers_push n [] p = let e : n ≡ n + 0 = omega arith in ap (λ m. m ∷ []) e
numbers_push n (q ∷ ps) p =
    let e : suc n + count q.inner + count (prototypes ps) ≡ n + (1 + count q.inner + count (prototypes ps)) = omega arith in
    ap (λ l. n ∷ l) (numbers_push (suc n + count q.inner) ps p ∙ ap (λ m. numbers (suc n + count q.inner) (prototypes ps) ++ m ∷ []) e)

pub take_over : {A : Type 0} (n : ℕ) (xs : List A) → length xs ≤ n → take n xs ≡ xs
take_over zero [] h = refl
take_over zero (x ∷ xs) h = absurd (omega (arith, h))
take_over (suc n) [] h = refl
take_over (suc n) (x ∷ xs) h = ap (λ ys. x ∷ ys) (take_over n xs (omega (arith, h)))

pub listed_checked : (ps : List Prototype) (i : ℕ) (q : Prototype) → AllChecked (prototypes ps) → slice_get ps i ≡ Some q → IsChecked q
listed_checked [] i q h e = absurd (cc)
listed_checked (p ∷ ps) zero q h e = subst IsChecked (some_same p q e) (record { code = h.0; inner = h.1 })
listed_checked (p ∷ ps) (suc i) q h e = listed_checked ps i q h.2 e

pub count_within : (ps : List Prototype) (i : ℕ) (q : Prototype) → slice_get ps i ≡ Some q → count q.inner < count (prototypes ps)
count_within [] i q e = absurd (cc)
count_within (p ∷ ps) zero q e = let c = ap (λ (r : Prototype). count r.inner) (some_same p q e) in omega (arith, c)
count_within (p ∷ ps) (suc i) q e = let h = count_within ps i q e in omega (arith, h)

-- a function's own code and, behind it, some of the functions that are defined in it
pub record IsUnderway (texts : List (List ℕ)) (old now : List Code) (p : Prototype) (inner : List Prototype) (ids : List ProtoId) : Type 0 where
  pub own : Code
  pub added : List Code
  pub list : now ≡ old ++ (own ∷ added)
  pub is_own : IsOwnCode texts p own
  pub codes : AreCodesFrom texts (suc (length old)) (preorder (prototypes inner)) added
  pub numbered : map (λ id. id.0) ids ≡ numbers (suc (length old)) (prototypes inner)

pub begun : (texts : List (List ℕ)) (old now : List Code) (p : Prototype) (own : Code) → now ≡ old ++ own ∷ [] → IsOwnCode texts p own → IsUnderway texts old now p [] []
begun texts old now p own e h = record { own = own; added = []; list = e; is_own = h; codes = tt; numbered = refl }

code_kept : (old new : List (List ℕ)) (n : ℕ) (p : Prototype) (code : Code) → Begins (List ℕ) old new → IsCode old n p code → IsCode new n p code
code_kept old new n p code b h = kept_on (λ texts. IsCode texts n p code) (λ texts s k. code_stays texts s n p code k) old new b h

own_kept : (old new : List (List ℕ)) (p : Prototype) (own : Code) → Begins (List ℕ) old new → IsOwnCode old p own → IsOwnCode new p own
own_kept old new p own b h = record { numbered = λ n whole same is. code_kept old new n p whole b (h.numbered n whole same is) }

-- one more of them
pub gone_on : (texts grown_texts : List (List ℕ)) (old now new : List Code) (p : Prototype) (inner : List Prototype) (q : Prototype) (ids : List ProtoId) (id : ProtoId)
    → IsUnderway texts old now p inner ids → Begins (List ℕ) texts grown_texts → id.0 ≡ length now → AddsFunctions grown_texts now new (q ∷ preorder q.inner)
    → IsUnderway grown_texts old new p (inner ++ q ∷ []) (ids ++ id ∷ [])
gone_on texts grown_texts old now new p inner q ids id u b e a =
    let n : ℕ = suc (length old) in
    let kept : AreCodesFrom grown_texts n (preorder (prototypes inner)) u.added = kept_on (λ t. AreCodesFrom t n (preorder (prototypes inner)) u.added) (λ t s h. codes_kept t s n (preorder (prototypes inner)) u.added h) texts grown_texts b u.codes in
    let l = ap length u.list in
    let m = length-append old (u.own ∷ u.added) in
    let at : length now ≡ n + length u.added = omega (arith, l, m) in
    let s = same_length grown_texts n (preorder (prototypes inner)) u.added kept in
    let t = length_preorder (prototypes inner) in
    let number : id.0 ≡ n + count (prototypes inner) = omega (arith, e, at, s, t) in
    record {
      own = u.own;
      added = u.added ++ a.added;
      list = a.list ∙ ap (λ l. l ++ a.added) u.list ∙ append_assoc old (u.own ∷ u.added) a.added;
      is_own = own_kept texts grown_texts p u.own b u.is_own;
      codes = subst (λ ps. AreCodesFrom grown_texts n ps (u.added ++ a.added)) (sym (preorder_push inner q))
          (joined grown_texts n (preorder (prototypes inner)) (q ∷ preorder q.inner) u.added a.added kept (subst (λ k. AreCodesFrom grown_texts k (q ∷ preorder q.inner) a.added) at a.codes));
      numbered = map_push (λ (i : ProtoId). i.0) ids id ∙ ap (λ l. l ++ id.0 ∷ []) u.numbered ∙ ap (λ k. numbers n (prototypes inner) ++ k ∷ []) number ∙ sym (numbers_push n inner q);
    }

-- all of them, with their numbers
pub ended : (texts : List (List ℕ)) (old now new : List Code) (p : Prototype) (inner : List Prototype) (ids : List ProtoId) (place : ℕ) (own made : Code)
    → IsUnderway texts old now p inner ids → p.inner ≡ prototypes inner → place ≡ length old → own ≡ get_or now place own
    → made ≡ record own { inner = made.inner } → made.inner.items ≡ ids → new ≡ set now place made
    → AddsFunctions texts old new (p ∷ preorder p.inner)
ended texts old now new p inner ids place own made u all e read same is_ids written =
    let is_own : own ≡ u.own = read ∙ ap (λ xs. get_or xs place own) u.list ∙ get_or_at old u.own u.added own place (sym e) in
    let h : IsCode texts (length old) p made =
    u.is_own.numbered (length old) made (same ∙ ap (λ (c : Code). record c { inner = made.inner }) is_own)
    (ap (map (λ (id : ProtoId). id.0)) is_ids ∙ u.numbered ∙ ap (numbers (suc (length old))) (sym all)) in
    let rest : AreCodesFrom texts (suc (length old)) (preorder p.inner) u.added = subst (λ t. AreCodesFrom texts (suc (length old)) (preorder t) u.added) (sym all) u.codes in
    record {
      added = made ∷ u.added;
      list = written ∙ ap (λ xs. set xs place made) u.list ∙ set_at old u.own u.added made place (sym e);
      codes = (h, rest);
    }

-- the functions of a world

firsts_more : (trees : List Tree) (t : Tree) → AreFirsts trees → t.first ≡ length (functions_in trees) → AreFirsts (trees ++ t ∷ [])
firsts_more trees t h e k u f =
    let old : slice_get trees k ≡ Some u → u.first ≡ length (functions_in (take k (trees ++ t ∷ []))) = λ there.
    let l = slice_get_within trees k u there in
    h k u there ∙ ap (λ ts. length (functions_in ts)) (sym (take-append-le k trees (t ∷ []) (omega (arith, l)))) in
    let new : (k ≡ length trees) × (t ≡ u) → u.first ≡ length (functions_in (take k (trees ++ t ∷ []))) = λ last.
    ap (λ (r : Tree). r.first) (sym last.1) ∙ e ∙ ap (λ ts. length (functions_in ts)) (sym (take_at trees (t ∷ []) k (sym last.0))) in
    ⊎_elim old new (get_either trees t k u f)

each_more : (texts : List (List ℕ)) (fs ps : List Prototype) (cs ds : List Code) → length cs ≡ length fs
    → ((n : ℕ) (p : Prototype) (c : Code) → slice_get fs n ≡ Some p → slice_get cs n ≡ Some c → IsCode texts n p c) → AreCodesFrom texts (length cs) ps ds
    → (n : ℕ) (p : Prototype) (c : Code) → slice_get (fs ++ ps) n ≡ Some p → slice_get (cs ++ ds) n ≡ Some c → IsCode texts n p c
each_more texts fs ps cs ds same h k n p c e f =
    let within : n < length fs → IsCode texts n p c = λ l. h n p c (sym (get_front fs ps n l) ∙ e) (sym (get_front cs ds n (omega (arith, l, same))) ∙ f) in
    let behind : length fs ≤ n → IsCode texts n p c = λ l.
    let i : ℕ = n - length fs in
    let a : n ≡ length fs + i = omega (arith, l) in
    let b : n ≡ length cs + i = omega (arith, a, same) in
    subst (λ m. IsCode texts m p c) (sym b)
    (each_from texts (length cs) ps ds k i p c (sym (get_behind fs ps i) ∙ ap (slice_get (fs ++ ps)) (sym a) ∙ e) (sym (get_behind cs ds i) ∙ ap (slice_get (cs ++ ds)) (sym b) ∙ f)) in
    ⊎_elim within behind (split n (length fs))

pub trees_more : (trees : List Tree) (t : Tree) → functions_in (trees ++ t ∷ []) ≡ functions_in trees ++ (t.code ∷ preorder t.code.inner)
trees_more trees t =
    ap (λ ps. preorder (prototypes ps)) (map_push (λ (t : Tree). t.code) trees t) ∙ preorder_push (map (λ (t : Tree). t.code) trees) t.code

codes_more : (before after : List (List ℕ)) (old new : Codes) (t : Tree) → AreCodes before old → Begins (List ℕ) before after → new.trees.items ≡ old.trees.items ++ t ∷ [] → t.first ≡ length old.list.items
    → AddsFunctions after old.list.items new.list.items (t.code ∷ preorder t.code.inner) → AreCodes after new
codes_more before after old new t h b trees first a =
    let fs : List Prototype = functions old in
    let ps : List Prototype = t.code ∷ preorder t.code.inner in
    let functions_now : functions new ≡ fs ++ ps = ap functions_in trees ∙ trees_more old.trees.items t in
    let same = same_length after (length old.list.items) ps a.added a.codes in
    let l = length-append old.list.items a.added in
    let m = length-append fs ps in
    let c = h.count in
    let both : length (old.list.items ++ a.added) ≡ length (fs ++ ps) = omega (arith, same, l, m, c) in
    record {
      count = ap length a.list ∙ both ∙ ap length (sym functions_now);
      firsts = subst AreFirsts (sym trees) (firsts_more old.trees.items t h.firsts (first ∙ h.count));
      each = λ n p code e f.
          each_more after fs ps old.list.items a.added h.count
          (λ n p c e f. code_kept before after n p c b (h.each n p c e f)) a.codes
          n p code (ap (λ l. slice_get l n) (sym functions_now) ∙ e) (ap (λ l. slice_get l n) (sym a.list) ∙ f);
    }

-- a sound world reads the same

prototype_stays : (ps qs : List Prototype) (n : ℕ) → IsChecked (prototype_at ps n) → prototype_at (ps ++ qs) n ≡ prototype_at ps n
prototype_stays ps qs n h = ap code_or_none (get_front ps qs n (checked_there ps n h))

functions_stay : (z : Sizes) (ps qs : List Prototype) (fs : List Func) → Each (FunctionOk z) (map (function ps) fs) → map (function (ps ++ qs)) fs ≡ map (function ps) fs
functions_stay z ps qs fs h =
    each_stays (function (ps ++ qs)) (function ps) (FunctionOk z) (λ f ok. ap (λ (p : Prototype). record (function ps f) { code = p }) (prototype_stays ps qs f.code.0 ok.code)) fs h

strings_stay : (primitives fuel : ℕ) (W : Memory) (new : List (List ℕ)) → Begins (List ℕ) W.strings new → Solid primitives (plain W fuel) → plain (record W { strings = new }) fuel ≡ plain W fuel
strings_stay primitives fuel W new b h =
    kept_on (λ texts. plain (record W { strings = texts }) fuel ≡ plain W fuel)
    (λ texts s e. plain_stays primitives fuel (record W { strings = texts }) s (subst (Solid primitives) (sym e) h) ∙ e) W.strings new b refl

pub adds_code : (old new : Memory) (t : Tree) → AreCodes old.strings old.codes → new ≡ record old { strings = new.strings; codes = new.codes } → Begins (List ℕ) old.strings new.strings
    → new.codes.trees.items ≡ old.codes.trees.items ++ t ∷ [] → t.first ≡ length old.codes.list.items
    → AddsFunctions new.strings old.codes.list.items new.codes.list.items (t.code ∷ preorder t.code.inner) → AddsCode old new t.code
adds_code old new t h rest b trees first a =
    let ps : List Prototype = t.code ∷ preorder t.code.inner in
    let functions_now : functions new.codes ≡ functions old.codes ++ ps = ap functions_in trees ∙ trees_more old.codes.trees.items t in
    record {
      functions = functions_now;
      trees = record { more = t ∷ []; is = trees };
      list = record { more = a.added; is = a.list };
      strings = b;
      rest = rest;
      plain = λ primitives fuel sound.
          let z : Sizes = sizes primitives (plain old fuel) in
          let V : World = plain (record old { strings = new.strings }) fuel in
          let fs : List Func = old.funcs.objects in
          ap (λ (W : Memory). plain W fuel) rest
          ∙ ap (λ gs. record V { functions = gs }) (ap (λ l. map (function l) fs) functions_now ∙ functions_stay z (functions old.codes) ps fs sound.solid.functions)
          ∙ strings_stay primitives fuel old new.strings b sound.solid;
      codes = codes_more old.strings new.strings old.codes new.codes t h b trees first a;
    }

pub keeps_code : (old new : Memory) → new ≡ record old { codes = new.codes } → new.codes.trees.items ≡ old.codes.trees.items → new.codes.list.items ≡ old.codes.list.items → KeepsCode old new
keeps_code old new rest trees list = record {
  trees = trees;
  list = list;
  rest = rest;
  plain = λ fuel.
      let V : World = plain old fuel in
      ap (λ (W : Memory). plain W fuel) rest ∙ ap (λ (ts : List Tree). record V { functions = map (function (functions_in ts)) old.funcs.objects }) trees;
  codes = λ h. record {
    count = ap length list ∙ h.count ∙ ap (λ (ts : List Tree). length (functions_in ts)) (sym trees);
    firsts = subst AreFirsts (sym trees) h.firsts;
    each = λ n p code e f.
        subst (λ texts. IsCode texts n p code) (sym (ap (λ (W : Memory). W.strings) rest))
        (h.each n p code (ap (λ (ts : List Tree). slice_get (functions_in ts) n) (sym trees) ∙ e) (ap (λ l. slice_get l n) (sym list) ∙ f));
  };
}

-- code that is added is found under the number behind those that were there

code_behind : {A : Type 0} (xs ys : List A) (x : A) → slice_get (xs ++ x ∷ ys) (length xs) ≡ Some x
code_behind [] ys x = refl
code_behind (z ∷ xs) ys x = code_behind xs ys x

pub code_there : (old new : Memory) (p : Prototype) (n : ℕ) → AddsCode old new p → n ≡ length (functions old.codes) → prototype_at (functions new.codes) n ≡ p
code_there old new p n a e =
    ap (prototype_at (functions new.codes)) e ∙ ap (λ ps. prototype_at ps (length (functions old.codes))) a.functions
    ∙ ap code_or_none (code_behind (functions old.codes) _ p)
