-- Chains of handlers, link by link.
use Rattle.std.proofs.Common.{◌≡◌, ◌≤◌, ◌<◌, ◌-◌, ◌+◌, ℕ, zero, suc, true, false, cond, List, [], ◌∷◌, Option, Some, None, refl, ap, sym, subst, ◌∙◌, arith}
use Rattle.std.specs.Prelude.{codes}
use Rattle.int_core.specs.Heap.{Heap, raw_get}
use Rattle.int_core.specs.Operations.{Settled, found, ask, fault, of_call, of_index, of_newindex, handler_in, is_function, index_of, indexed, store_of, stored, set_raw, callee, callee_of, not_callable, of_type}
use Rattle.int_core.specs.Value.{Value, is_nil}
use Rattle.meta_ops.specs.Chains.{linked, through}

-- `__index`

-- after some links the object that is looked into
pub record IsLooked (H : Heap) (o at key : Value) (links : ℕ) : Type 0 where
  pub goes : (n : ℕ) → links ≤ n → index_of n H o key ≡ index_of (n - links) H at key

pub none-looked : (H : Heap) (o key : Value) → IsLooked H o o key 0
none-looked H o key = record { goes = λ n within. let whole : n ≡ n - 0 = omega arith in ap (λ k. index_of k H o key) whole }

-- what one object comes to, whatever follows
abbrev pub IndexComes : Heap → Value → Value → ((Value → Settled) → Settled) → Type 0
IndexComes H at key answer = (follow : Value → Settled) → indexed H at (raw_get H at key) follow ≡ answer follow

-- what follows a handler, where links are left and where none is
abbrev index_on : Heap → Value → Value → ℕ → Value → Settled
index_on H at key n h = cond (is_function h) (ask h (at ∷ key ∷ [])) (index_of n H h key)

abbrev index_cut : Value → Settled
index_cut h = fault (codes "'__index' chain too long; possibly a loop")

index-settled : (H : Heap) (at key : Value) (n : ℕ) (answer : Settled) → IndexComes H at key (λ follow. answer) → index_of n H at key ≡ answer
index-settled H at key zero answer comes = comes index_cut
index-settled H at key (suc n) answer comes = comes (index_on H at key n)

index-asks : (H : Heap) (at key h : Value) (n : ℕ) → IndexComes H at key (λ follow. follow h) → is_function h ≡ true → index_of (suc n) H at key ≡ ask h (at ∷ key ∷ [])
index-asks H at key h n comes callable = comes (index_on H at key n) ∙ rw callable refl

index-follows : (H : Heap) (at key h : Value) (n : ℕ) → IndexComes H at key (λ follow. follow h) → is_function h ≡ false → index_of (suc n) H at key ≡ index_of n H h key
index-follows H at key h n comes callable = comes (index_on H at key n) ∙ rw callable refl

module _ (H : Heap) (o at key : Value) (links : ℕ) (is : IsLooked H o at key links) where
  pub looked-settled : (n : ℕ) (answer : Settled) → links ≤ n → IndexComes H at key (λ follow. answer) → index_of n H o key ≡ answer
  looked-settled n answer within comes = is.goes n within ∙ index-settled H at key (n - links) answer comes

  pub looked-asks : (n : ℕ) (h : Value) → links < n → IndexComes H at key (λ follow. follow h) → is_function h ≡ true → index_of n H o key ≡ ask h (at ∷ key ∷ [])
  looked-asks n h within comes callable =
      let more : n - links ≡ suc (n - suc links) = omega (arith, within) in
      is.goes n (omega (arith, within)) ∙ ap (λ k. index_of k H at key) more ∙ index-asks H at key h (n - suc links) comes callable

  pub looked-next : (h : Value) → IndexComes H at key (λ follow. follow h) → is_function h ≡ false → IsLooked H o h key (links + 1)
  looked-next h comes callable = record {
    goes = λ n within.
        let more : n - links ≡ suc (n - (links + 1)) = omega (arith, within) in
        is.goes n (omega (arith, within)) ∙ ap (λ k. index_of k H at key) more ∙ index-follows H at key h (n - (links + 1)) comes callable;
  }

  pub looked-ends : (n : ℕ) (h : Value) → links ≡ n → IndexComes H at key (λ follow. follow h) → index_of n H o key ≡ fault (codes "'__index' chain too long; possibly a loop")
  looked-ends n h last comes =
      let none : n - links ≡ 0 = omega (arith, last) in
      is.goes n (omega (arith, last)) ∙ ap (λ k. index_of k H at key) none ∙ comes index_cut

-- `__newindex`

-- after some links the object that is written to
pub record IsWritten (H : Heap) (o at key v : Value) (links : ℕ) : Type 0 where
  pub goes : (n : ℕ) → links ≤ n → store_of n H o key v ≡ store_of (n - links) H at key v

pub none-written : (H : Heap) (o key v : Value) → IsWritten H o o key v 0
none-written H o key v = record { goes = λ n within. let whole : n ≡ n - 0 = omega arith in ap (λ k. store_of k H o key v) whole }

abbrev pub StoreComes : Heap → Value → Value → Value → ((Value → Settled) → Settled) → Type 0
StoreComes H at key v answer = (follow : Value → Settled) → stored H at key v (raw_get H at key) follow ≡ answer follow

abbrev store_on : Heap → Value → Value → Value → ℕ → Value → Settled
store_on H at key v n h = cond (is_function h) (ask h (at ∷ key ∷ v ∷ [])) (store_of n H h key v)

abbrev store_cut : Value → Settled
store_cut h = fault (codes "'__newindex' chain too long; possibly a loop")

store-settled : (H : Heap) (at key v : Value) (n : ℕ) (answer : Settled) → StoreComes H at key v (λ follow. answer) → store_of n H at key v ≡ answer
store-settled H at key v zero answer comes = comes store_cut
store-settled H at key v (suc n) answer comes = comes (store_on H at key v n)

store-asks : (H : Heap) (at key v h : Value) (n : ℕ) → StoreComes H at key v (λ follow. follow h) → is_function h ≡ true → store_of (suc n) H at key v ≡ ask h (at ∷ key ∷ v ∷ [])
store-asks H at key v h n comes callable = comes (store_on H at key v n) ∙ rw callable refl

store-follows : (H : Heap) (at key v h : Value) (n : ℕ) → StoreComes H at key v (λ follow. follow h) → is_function h ≡ false → store_of (suc n) H at key v ≡ store_of n H h key v
store-follows H at key v h n comes callable = comes (store_on H at key v n) ∙ rw callable refl

module _ (H : Heap) (o at key v : Value) (links : ℕ) (is : IsWritten H o at key v links) where
  pub written-settled : (n : ℕ) (answer : Settled) → links ≤ n → StoreComes H at key v (λ follow. answer) → store_of n H o key v ≡ answer
  written-settled n answer within comes = is.goes n within ∙ store-settled H at key v (n - links) answer comes

  pub written-asks : (n : ℕ) (h : Value) → links < n → StoreComes H at key v (λ follow. follow h) → is_function h ≡ true → store_of n H o key v ≡ ask h (at ∷ key ∷ v ∷ [])
  written-asks n h within comes callable =
      let more : n - links ≡ suc (n - suc links) = omega (arith, within) in
      is.goes n (omega (arith, within)) ∙ ap (λ k. store_of k H at key v) more ∙ store-asks H at key v h (n - suc links) comes callable

  pub written-next : (h : Value) → StoreComes H at key v (λ follow. follow h) → is_function h ≡ false → IsWritten H o h key v (links + 1)
  written-next h comes callable = record {
    goes = λ n within.
        let more : n - links ≡ suc (n - (links + 1)) = omega (arith, within) in
        is.goes n (omega (arith, within)) ∙ ap (λ k. store_of k H at key v) more ∙ store-follows H at key v h (n - (links + 1)) comes callable;
  }

  pub written-ends : (n : ℕ) (h : Value) → links ≡ n → StoreComes H at key v (λ follow. follow h) → store_of n H o key v ≡ fault (codes "'__newindex' chain too long; possibly a loop")
  written-ends n h last comes =
      let none : n - links ≡ 0 = omega (arith, last) in
      is.goes n (omega (arith, last)) ∙ ap (λ k. store_of k H at key v) none ∙ comes store_cut

-- one link of `__index` by its parts

pub index-found : (H : Heap) (o key v : Value) (follow : Value → Settled) → raw_get H o key ≡ Some v → is_nil v ≡ false → indexed H o (raw_get H o key) follow ≡ found H (v ∷ [])
index-found H o key v follow raw filled = rw (raw, filled) refl

pub index-handler : (H : Heap) (o key : Value) (raw : Option Value) (follow : Value → Settled) → ((v : Value) → raw ≡ Some v → is_nil v ≡ true) → is_nil (handler_in H of_index o) ≡ false → indexed H o raw follow ≡ follow (handler_in H of_index o)
index-handler H o key None follow cleared there = rw there refl
index-handler H o key (Some v) follow cleared there = rw (cleared v refl, there) refl

pub index-none : (H : Heap) (o key : Value) (raw : Option Value) (follow : Value → Settled) → ((v : Value) → raw ≡ Some v → is_nil v ≡ true) → is_nil (handler_in H of_index o) ≡ true → indexed H o raw follow ≡ elim raw [ None ↦ fault (of_type (codes "index") o) | Some v ↦ found H (v ∷ []) ]
index-none H o key None follow cleared none = rw none refl
index-none H o key (Some v) follow cleared none = rw (cleared v refl, none) refl

-- and of `__newindex`

pub store-present : (H : Heap) (o key v w : Value) (follow : Value → Settled) → raw_get H o key ≡ Some w → is_nil w ≡ false → stored H o key v (raw_get H o key) follow ≡ set_raw H o key v
store-present H o key v w follow raw filled = rw (raw, filled) refl

pub store-handler : (H : Heap) (o key v : Value) (raw : Option Value) (follow : Value → Settled) → ((w : Value) → raw ≡ Some w → is_nil w ≡ true) → is_nil (handler_in H of_newindex o) ≡ false → stored H o key v raw follow ≡ follow (handler_in H of_newindex o)
store-handler H o key v None follow cleared there = rw there refl
store-handler H o key v (Some w) follow cleared there = rw (cleared w refl, there) refl

pub store-none : (H : Heap) (o key v : Value) (raw : Option Value) (follow : Value → Settled) → ((w : Value) → raw ≡ Some w → is_nil w ≡ true) → is_nil (handler_in H of_newindex o) ≡ true → stored H o key v raw follow ≡ set_raw H o key v
store-none H o key v None follow cleared none = rw none refl
store-none H o key v (Some w) follow cleared none = rw (cleared w refl, none) refl

-- `__call`

-- the call of a value, after some links
pub record IsReached (H : Heap) (called at : Value) (links : ℕ) : Type 0 where
  pub reached : at ≡ linked links H called
  pub goes : (n : ℕ) (arguments : List Value) → links ≤ n → callee_of n H called arguments ≡ callee_of (n - links) H at (through links H called arguments)
  pub ends : (n : ℕ) (arguments : List Value) → suc n ≡ links → callee_of n H called arguments ≡ not_callable (codes "stack overflow")

pub none-followed : (H : Heap) (called : Value) → IsReached H called called 0
none-followed H called = record { reached = refl; goes = λ n arguments within. let whole : n - 0 ≡ n = omega arith in ap (λ k. callee_of k H called arguments) (sym whole); ends = λ n arguments is. absurd (omega (arith, is)) }

called-function : (n : ℕ) (H : Heap) (f : Value) (arguments : List Value) → is_function f ≡ true → callee_of n H f arguments ≡ callee f arguments
called-function zero H f arguments callable = rw callable refl
called-function (suc n) H f arguments callable = rw callable refl

called-nothing : (n : ℕ) (H : Heap) (f : Value) (arguments : List Value) → is_function f ≡ false → is_nil (handler_in H of_call f) ≡ true → callee_of n H f arguments ≡ not_callable (of_type (codes "call") f)
called-nothing zero H f arguments callable none = rw (callable, none) refl
called-nothing (suc n) H f arguments callable none = rw (callable, none) refl

module _ (H : Heap) (called at : Value) (links : ℕ) (is : IsReached H called at links) where
  pub reached-function : (n : ℕ) (arguments : List Value) → links ≤ n → is_function at ≡ true → callee_of n H called arguments ≡ callee at (through links H called arguments)
  reached-function n arguments within callable = is.goes n arguments within ∙ called-function (n - links) H at _ callable

  pub reached-nothing : (n : ℕ) (arguments : List Value) (h : Value) → links ≤ n → is_function at ≡ false → h ≡ handler_in H of_call at → is_nil h ≡ true → callee_of n H called arguments ≡ not_callable (of_type (codes "call") at)
  reached-nothing n arguments h within callable e none = is.goes n arguments within ∙ called-nothing (n - links) H at _ callable (ap is_nil (sym e) ∙ none)

  reached-suc : is_function at ≡ false → is_nil (handler_in H of_call at) ≡ false → IsReached H called (handler_in H of_call at) (suc links)
  reached-suc callable there = record {
    reached = ap (handler_in H of_call) is.reached;
    goes = λ n arguments within.
        let more : n - links ≡ suc (n - suc links) = omega (arith, within) in
        is.goes n arguments (omega (arith, within))
        ∙ ap (λ k. callee_of k H at (through links H called arguments)) more
        ∙ rw (callable, there) (ap (λ v. callee_of (n - suc links) H (handler_in H of_call at) (v ∷ through links H called arguments)) is.reached);
    ends = λ n arguments last.
        let none : n - links ≡ 0 = omega (arith, last) in
        is.goes n arguments (omega (arith, last))
        ∙ ap (λ k. callee_of k H at (through links H called arguments)) none
        ∙ rw (callable, there) refl;
  }

  pub reached-next : (h : Value) → is_function at ≡ false → h ≡ handler_in H of_call at → is_nil h ≡ false → IsReached H called h (links + 1)
  reached-next h callable e there =
      let next : suc links ≡ links + 1 = omega arith in
      subst (λ k. IsReached H called h k) next (subst (λ v. IsReached H called v (suc links)) (sym e) (reached-suc callable (ap is_nil (sym e) ∙ there)))
