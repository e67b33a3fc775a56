use Rattle.std.proofs.Common.{◌≡◌, ◌+◌, ℕ, suc, List, [], ◌∷◌, ◌++◌, Some, length, take, rules, arith, refl, ap, sym, subst, ◌∙◌}
use Rattle.std.specs.Prelude.{slice_get}
use Rattle.std.proofs.Math.Seq.{take-suc}
use Rattle.std.proofs.lemmas.Option.{slice_get-get_or}
use Rattle.code_core.specs.Prototype.{Prototype, prototypes, count}
use Rattle.code_core.specs.Check.{AllChecked}
use Rattle.lua_heap.specs.declared.codes.Code.{Code}
use Rattle.lua_heap.specs.Adding.{Begins}
use Rattle.lua_heap.proofs.Added.{IsUnderway, begins_same, begins_more, begun, gone_on, ended, count_within, listed_checked, take_over}
use Rattle.lua_heap.proofs.adding.+add_function.Goals as goal

pub returns-in_err-push-clause-begins : goal.returns-in_err-push-clause-begins
returns-in_err-push-clause-begins t c = subst (Begins Code c.args.list.now.items) (sym c.in_err-push.ensures.items) (begins_same _)

pub loop-function-init : goal.loop-function-init
loop-function-init t c = record {
  strings = c.own_code.ensures.strings;
  place = search rules;
  underway = subst (λ ids. IsUnderway c.own_code.new.strings c.args.list.now.items c.push.new.self.items c.args.proto.now [] ids) (sym c.new-inner.ensures.items)
      (begun c.own_code.new.strings c.args.list.now.items c.push.new.self.items c.args.proto.now c.in_ok-code.code c.in_ok-push.ensures.items c.in_ok-code.ensures.code);
}

pub add_function-requires : goal.add_function-requires
add_function-requires t c =
    let items : List Prototype = c.deref-function-items.result.now in
    let i : ℕ = c.loop-function.function-index in
    let here : slice_get items i ≡ Some c.function-item.result = slice_get-get_or items i c.function-item.result (search rules) ∙ ap (λ q. Some q) (sym c.function-item.is) in
    let all : c.args.proto.now.inner ≡ prototypes items = ap (λ (p : Prototype). p.inner) (sym c.proto.view_is) ∙ ap prototypes (sym c.deref-function-items.ensures.value) in
    let less = count_within items i c.function-item.result here in
    let same = ap count all in
    (omega (arith, less, same, c.decreases), listed_checked items i c.function-item.result (subst AllChecked all c.requires.inner) here)

pub loop-function-preserved : goal.loop-function-preserved
loop-function-preserved t c =
    let items : List Prototype = c.deref-function-items.result.now in
    let i : ℕ = c.loop-function.function-index in
    let q : Prototype = c.function-item.result in
    let on : i + 1 ≡ suc i = omega arith in
    let taken : take (i + 1) items ≡ take i items ++ q ∷ [] = ap (λ n. take n items) on ∙ take-suc items i q (search rules) ∙ ap (λ q. take i items ++ q ∷ []) (sym c.function-item.is) in
    let number : c.len.result ≡ length c.loop-function.list.items = search rules in
    let e = c.in_ok-add_function.ensures in
    let texts : List (List ℕ) = c.add_function.new.strings in
    let new : List Code = c.add_function.new.list.items in
    record {
      strings = begins_more _ _ _ c.loop-function.invariant.strings e.strings;
      place = c.loop-function.invariant.place;
      underway = subst (λ inner. IsUnderway texts c.args.list.now.items new c.args.proto.now inner c.push-in-loop-function.new.self.items) (sym taken)
          (subst (λ ids. IsUnderway texts c.args.list.now.items new c.args.proto.now (take i items ++ q ∷ []) ids) (sym c.in_ok-push-2.ensures.items)
          (gone_on c.loop-function.strings texts c.args.list.now.items c.loop-function.list.items new c.args.proto.now (take i items) q c.loop-function.inner.items _
          c.loop-function.invariant.underway e.strings number e.added));
    }

pub returns-clause-added : goal.returns-clause-added
returns-clause-added t c =
    let items : List Prototype = c.deref-function-items.result.now in
    let all : c.args.proto.now.inner ≡ prototypes items = ap (λ (p : Prototype). p.inner) (sym c.proto.view_is) ∙ ap prototypes (sym c.deref-function-items.ensures.value) in
    let whole : take c.loop-function.function-index items ≡ items = take_over c.loop-function.function-index items c.loop-function-test.false in
    let u : IsUnderway c.loop-function.strings c.args.list.now.items c.loop-function.list.items c.args.proto.now items c.loop-function.inner.items =
    subst (λ inner. IsUnderway c.loop-function.strings c.args.list.now.items c.loop-function.list.items c.args.proto.now inner c.loop-function.inner.items) whole c.loop-function.invariant.underway in
    ended c.loop-function.strings c.args.list.now.items c.loop-function.list.items _ c.args.proto.now items c.loop-function.inner.items c.len-place.result c.index_mut.result.now
    (record c.index_mut.result.now { inner = c.loop-function.inner }) u all c.loop-function.invariant.place c.index_mut.ensures.value refl refl refl

pub returns-clause-begins : goal.returns-clause-begins
returns-clause-begins t c = let a = returns-clause-added t c in record { more = a.added; is = a.list }
