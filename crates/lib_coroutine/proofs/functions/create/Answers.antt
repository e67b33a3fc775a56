use Rattle.std.proofs.Common.{rules, ◌≡◌, [], ◌∷◌, refl, ap, sym, ◌∙◌, true, false}
use Rattle.std.specs.Prelude.{codes, map}
use Rattle.std.proofs.lemmas.Result.{IfOk-weaker}
use Rattle.int_core.specs.Value.{a_coroutine, nth, object, shape}
use Rattle.lua_heap.specs.Reading.{value}
use Rattle.machine_core.specs.Text.{read}
use Rattle.machine_core.specs.MachineStep.{creates, wrong_type}
use Rattle.table_core.specs.declared.value.Value.TheVariants.{Coro}
use Rattle.machine_coroutines.proofs.Handed.{running_on}
use Rattle.lib_coroutine.specs.Arguments.{can_be_called}
use Rattle.lib_coroutine.proofs.Rows.{callable, create_leads, not_callable, refuses}
use Rattle.lib_coroutine.proofs.functions.create.Goals as goal

pub returns-then-not-can_be_called-clause-leads : goal.returns-then-not-can_be_called-clause-leads
returns-then-not-can_be_called-clause-leads c =
    let W = c.args.world.now in
    let f = value W.strings in
    let v = c.first_of-body.result in
    let no : can_be_called v ≡ false = search rules in
    let moved : c.deref.result.now ≡ W.moving.items = search rules in
    let first : f v ≡ nth (map f W.moving.items) 0 = c.first_of-body.ensures W.strings ∙ ap (λ l. nth (map f l) 0) moved in
    let text = wrong_type 1 (codes "create") (codes "function") (shape (f v)) in
    IfOk-weaker c.refuse.result _ _ (λ ending b. refuses creates text (ap (λ v. creates (shape v) 0) (sym first) ∙ not_callable W.strings v no) b) c.refuse.ensures.leads

pub hand_over-requires : goal.hand_over-requires
hand_over-requires c = running_on c.give_values.ensures.rest (c.create.ensures.running c.requires.running)

pub returns-clause-leads : goal.returns-clause-leads
returns-clause-leads c =
    let W = c.args.world.now in
    let M = c.create.new.world in
    let f = value W.strings in
    let v = c.first_of-body.result in
    let id = c.in_ok-made.made in
    let yes : can_be_called v ≡ true = search rules in
    let moved : c.deref.result.now ≡ W.moving.items = search rules in
    let first : nth (map f W.moving.items) 0 ≡ f v = sym (c.first_of-body.ensures W.strings ∙ ap (λ l. nth (map f l) 0) moved) in
    let both = callable W.strings v yes in
    let answer : c.push_reserved.new.self.items ≡ Coro id ∷ [] = search rules in
    create_leads (f v) id.0 first both.0 both.1 (c.in_ok-made.ensures.makes (f v ∷ []) (read 0) refl)
    (c.give_values.ensures.all (object a_coroutine id.0 ∷ []) (read 0 ∷ []) (sym (ap (map (value M.strings)) answer))) c.hand_over.ensures
