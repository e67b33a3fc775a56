use Rattle.std.proofs.Common.{rules, ◌≡◌, ◌∙◌, ℕ, List, [], ◌∷◌, Bool, true, false, refl, sym, subst}
use Rattle.std.specs.Prelude.{cond, pos}
use Rattle.code_core.specs.Prototype.{Prototype}
use Rattle.int_core.specs.Value.{Shape, Value as Meant, holds, shape}
use Rattle.instruction_forms.specs.Forms.{text_of}
use Rattle.instruction_forms.specs.declared.form.Form.TheVariants.{Mark}
use Rattle.table_core.specs.declared.value.Value.{Value as Kept}
use Rattle.lua_heap.specs.declared.world.World.{World as Memory}
use Rattle.lua_heap.specs.Reading.{value as meant}
use Rattle.machine_core.specs.Text.{Arg, Text, arg, closable, go_by, read, read_register}
use Rattle.machine_core.specs.InstructionRows.{variable_name}
use Rattle.machine_core.specs.FrameRows.{at_once, expand, raises}
use Rattle.machine_core.specs.Moves.{Ending, Row, go, is_closable, on_own}
use Rattle.move_laws.specs.Memory.{IsSafe, Leads, Makes}
use Rattle.move_laws.proofs.Rows.{first, safe_after}
use Rattle.machine_returns.specs.Marking.{marked}
use Rattle.machine_returns.specs.Names.{open_text}
use Rattle.machine_returns.proofs.Closed.{where_ok}
use Rattle.machine_returns.proofs.Taken.{goes_on, may_go}
use Rattle.machine_returns.proofs.marking.mark.Goals as goal

abbrev by_truth : Prototype → (pc register ahead v : ℕ) → Bool → Text
by_truth p pc register ahead v truth = cond truth (closable (read v) (variable_name p pc register) (marked register ahead)) (go_by (pos ahead))

abbrev seen : Prototype → (pc register ahead v : ℕ) → Shape → Text
seen p pc register ahead v s = by_truth p pc register ahead v (holds s)

abbrev by_method : Prototype → (pc register ahead : ℕ) → Bool → Row
by_method p pc register ahead b = cond b (expand (marked register ahead)) (raises (open_text p pc register))

-- a value that counts as true, by whether it can be closed
module _ {W : Memory} (v : Kept) {told can : Bool} (p : Prototype) (pc register ahead : ℕ) (reads : (env : List Meant) → Makes W W (on_own (read_register register)) env (meant W.strings v ∷ []) (shape (meant W.strings v)))
    (yes : holds (shape (meant W.strings v)) ≡ true) (closes : (env : List Meant) (x : Arg) → arg env x ≡ meant W.strings v → Makes W W (is_closable x) env [] told) (is : told ≡ can) where
  tells : Makes W W (is_closable (read 0)) (meant W.strings v ∷ []) [] can
  tells = subst (Makes W W (is_closable (read 0)) (meant W.strings v ∷ []) []) is (closes (meant W.strings v ∷ []) (read 0) refl)

  leads_so : {new : Memory} {ending : Ending} → Leads (by_method p pc register ahead can) (meant W.strings v ∷ []) W new ending → Leads (expand (text_of p pc (Mark register ahead))) [] W new ending
  leads_so {new} {ending} l =
      first (λ v s. expand (seen p pc register ahead v s)) (reads [])
      (subst (λ b. Leads (expand (by_truth p pc register ahead 0 b)) (meant W.strings v ∷ []) W new ending) (sym yes)
      (first (λ _ b. by_method p pc register ahead b) tells l))

  safe_so : IsSafe (expand (text_of p pc (Mark register ahead))) [] W → IsSafe (by_method p pc register ahead can) (meant W.strings v ∷ []) W
  safe_so s =
      let t = subst (λ b. IsSafe (expand (by_truth p pc register ahead 0 b)) (meant W.strings v ∷ []) W) yes (safe_after (λ v s. expand (seen p pc register ahead v s)) s (reads [])) in
      safe_after (λ _ b. by_method p pc register ahead b) t tells

pub go_to-requires : goal.go_to-requires
go_to-requires c =
    let W = c.args.world.now in
    let p = c.requires.stands.at.place in
    let v : Meant = meant W.strings c.read_register-v.result in
    let no : c.counts_as_true.result ≡ false = search rules in
    let s = safe_after (λ v s. expand (seen p.function.code c.args.pc c.args.register c.args.ahead v s)) (c.requires.safe p c.requires.stands.at.is) (c.read_register-v.ensures []) in
    may_go at_once c.args.ahead c.requires.stands.at refl (subst (λ b. IsSafe (expand (by_truth p.function.code c.args.pc c.args.register c.args.ahead 0 b)) (v ∷ []) W) (sym (c.counts_as_true.ensures W.strings) ∙ no) s)

pub returns-then-not-counts_as_true-clause-leads : goal.returns-then-not-counts_as_true-clause-leads
returns-then-not-counts_as_true-clause-leads c = λ p is.
    let W = c.args.world.now in
    let v : Meant = meant W.strings c.read_register-v.result in
    let no : c.counts_as_true.result ≡ false = search rules in
    first (λ v s. expand (seen p.function.code c.args.pc c.args.register c.args.ahead v s)) (c.read_register-v.ensures [])
    (subst (λ b. Leads (expand (by_truth p.function.code c.args.pc c.args.register c.args.ahead 0 b)) (v ∷ []) W c.go_to.new.world go) (sym no ∙ c.counts_as_true.ensures W.strings)
    (goes_on at_once c.args.ahead c.requires.stands.at refl c.go_to.ensures.makes (v ∷ [])))

pub refuse-requires-clause-sound : goal.refuse-requires-clause-sound
refuse-requires-clause-sound c = c.requires.stands.sound

pub refuse-requires-clause-at : goal.refuse-requires-clause-at
refuse-requires-clause-at c = c.requires.stands.at

pub returns-then-not-is_closable-clause-leads : goal.returns-then-not-is_closable-clause-leads
returns-then-not-is_closable-clause-leads c =
    let yes : c.counts_as_true.result ≡ true = search rules in
    let no : c.is_closable.result ≡ false = search rules in
    where_ok c.refuse.result c.refuse.ensures.leads (λ ending l p is.
    leads_so c.read_register-v.result p.function.code c.args.pc c.args.register c.args.ahead c.read_register-v.ensures (sym (c.counts_as_true.ensures c.args.world.now.strings) ∙ yes) c.is_closable.ensures no (l p is _))

pub mark_register-requires : goal.mark_register-requires
mark_register-requires c =
    let at = c.requires.stands.at in
    let yes : c.counts_as_true.result ≡ true = search rules in
    let can : c.is_closable.result ≡ true = search rules in
    let s = safe_so c.read_register-v.result at.place.function.code c.args.pc c.args.register c.args.ahead c.read_register-v.ensures (sym (c.counts_as_true.ensures c.args.world.now.strings) ∙ yes) c.is_closable.ensures can (c.requires.safe at.place at.is) in
    record { order = c.requires.stands.sound.order; at = at; room = c.requires.stands.room; safe = record { env = _; safe = s } }

pub returns-clause-leads : goal.returns-clause-leads
returns-clause-leads c =
    let yes : c.counts_as_true.result ≡ true = search rules in
    let can : c.is_closable.result ≡ true = search rules in
    where_ok c.mark_register.result c.mark_register.ensures.leads (λ ending l p is.
    leads_so c.read_register-v.result p.function.code c.args.pc c.args.register c.args.ahead c.read_register-v.ensures (sym (c.counts_as_true.ensures c.args.world.now.strings) ∙ yes) c.is_closable.ensures can (l _))
