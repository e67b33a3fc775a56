use Rattle.std.proofs.Common.{rules, ◌≡◌, [], ◌∷◌, ap, sym, ◌∙◌, false}
use Rattle.std.specs.Prelude.{map}
use Rattle.int_core.specs.Value.{boolean, known, string}
use Rattle.lua_heap.specs.Reading.{value}
use Rattle.lua_heap.specs.Plain.{plain}
use Rattle.machine_core.specs.Text.{read, written}
use Rattle.table_core.specs.declared.value.Value.TheVariants.{Bool as Boolean, Str}
use Rattle.machine_coroutines.proofs.Handed.{running_on}
use Rattle.lib_coroutine.proofs.Resumes.{refused_leads}
use Rattle.lib_coroutine.proofs.Rows.{given_is, with_moving}
use Rattle.lib_coroutine.proofs.Sound.{interned_order, interned_runs, interned_same, interned_text}
use Rattle.lib_coroutine.proofs.resuming.answer_refusal.Goals as goal

pub hand_over-requires : goal.hand_over-requires
hand_over-requires c = running_on c.give_values.ensures.rest (interned_runs c.requires.sound c.in_ok-reason.ensures.interned c.requires.running)

pub returns-clause-leads : goal.returns-clause-leads
returns-clause-leads c =
    let W = c.args.world.now in
    let M = c.intern.new.self in
    let reason = c.in_ok-reason.reason in
    let r = c.requires.refused in
    let text : value M.strings (Str reason) ≡ known (string c.args.text.now) = interned_text M.strings reason c.in_ok-reason.ensures.named in
    let answer : c.push_reserved-2.new.self.items ≡ Boolean false ∷ Str reason ∷ [] = search rules in
    let given = c.give_values.ensures.all (value M.strings (Str reason) ∷ []) (written (boolean false) ∷ read 0 ∷ []) (sym (ap (map (value M.strings)) answer)) in
    refused_leads W c.args.co c.requires.first r.coro r.there c.requires.running c.args.text.now r.is
    (λ fuel. given_is (written (boolean false) ∷ read 0 ∷ []) given fuel
    ∙ ap (λ v. with_moving (plain M fuel) (known (boolean false) ∷ v ∷ [])) text
    ∙ ap (λ V. with_moving V (known (boolean false) ∷ known (string c.args.text.now) ∷ [])) (interned_same c.requires.sound c.in_ok-reason.ensures.interned fuel)) c.hand_over.ensures

pub returns-clause-order : goal.returns-clause-order
returns-clause-order c = interned_order c.requires.sound.order c.in_ok-reason.ensures.interned c.give_values.ensures.rest
