use Rattle.std.proofs.Common.{rules, ◌≡◌, [], ◌∷◌, ap, sym, ◌∙◌}
use Rattle.std.specs.Prelude.{map}
use Rattle.int_core.specs.Value.{known, string}
use Rattle.lua_heap.specs.Reading.{value}
use Rattle.machine_core.specs.MachineStep.{status_word}
use Rattle.machine_core.specs.Text.{read}
use Rattle.table_core.specs.declared.value.Value.TheVariants.{Str}
use Rattle.machine_coroutines.proofs.Handed.{running_on}
use Rattle.machine_coroutines.specs.Standing.{status_in}
use Rattle.lib_coroutine.proofs.Rows.{status_leads}
use Rattle.lib_coroutine.proofs.Sound.{coroutine_there, interned_order, interned_runs, interned_same, interned_text}
use Rattle.lib_coroutine.proofs.standing.answer_status.Goals as goal

pub see_status-requires : goal.see_status-requires
see_status-requires c = coroutine_there c.requires.sound c.args.co c.requires.first

pub hand_over-requires : goal.hand_over-requires
hand_over-requires c = running_on c.give_values.ensures.rest (interned_runs c.requires.sound c.in_ok-word.ensures.interned c.requires.running)

pub returns-clause-leads : goal.returns-clause-leads
returns-clause-leads c =
    let M = c.intern.new.self in
    let t = status_in c.see_status.result in
    let word = c.in_ok-word.word in
    let text : value M.strings (Str word) ≡ known (string (status_word t)) = interned_text M.strings word c.in_ok-word.ensures.named ∙ ap (λ bytes. known (string bytes)) c.word_of.ensures.word in
    let answer : c.push_reserved.new.self.items ≡ Str word ∷ [] = search rules in
    status_leads c.args.co.0 t (value M.strings (Str word)) c.requires.first c.see_status.ensures (interned_same c.requires.sound c.in_ok-word.ensures.interned) text
    (c.give_values.ensures.all (value M.strings (Str word) ∷ []) (read 0 ∷ []) (sym (ap (map (value M.strings)) answer))) c.hand_over.ensures

pub returns-clause-order : goal.returns-clause-order
returns-clause-order c = interned_order c.requires.sound.order c.in_ok-word.ensures.interned c.give_values.ensures.rest
