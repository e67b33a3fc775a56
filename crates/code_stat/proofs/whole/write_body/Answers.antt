use Rattle.std.proofs.Common.{ap₂, rules, ◌≡◌, ◌++◌, [], ◌∙◌, Some, length, map, refl}
use Rattle.tree_core.specs.declared.tree.Body.{out-Body}
use Rattle.code_parts.specs.Scopes.{begun, ended_from}
use Rattle.code_stat.specs.declared.writer.Writer.{Writer}
use Rattle.code_stat.proofs.Bodies.{body_declared}
use Rattle.code_stat.proofs.Filling.{body_written}
use Rattle.code_stat.proofs.whole.write_body.Goals as goal

pub returns-clause-code : goal.returns-clause-code
returns-clause-code c =
    let b = out-Body c.args.body.now in
    let params : c.len-params.result ≡ length b.params.items = search rules in
    let begun : Writer = record { emitter = c.put_opening.new.emitter; jumps = c.new-2.result; variables = c.declare_names.new.self; back = record { back = c.in_ok-field.field; closes = c.in_ok-closes.closes }; alloc = c.args.alloc } in
    body_written c.args.constants c.args.body.now begun c.whole.new.self c.lead_all.new.self.emitter c.len-params.result begun.back params (ap₂ (λ n b. record { back = n; closes = b }) c.in_ok-field.ensures c.in_ok-closes.ensures) (search rules) (search rules) refl c.in_ok-whole.ensures.code c.in_ok-lead_all.ensures.code

pub returns-clause-variables : goal.returns-clause-variables
returns-clause-variables c =
    let b = out-Body c.args.body.now in
    let params : c.len-params.result ≡ length b.params.items = search rules in
    let first : Writer = record { emitter = c.put_opening.new.emitter; jumps = c.new-2.result; variables = c.declare_names.new.self; back = record { back = c.in_ok-field.field; closes = c.in_ok-closes.closes }; alloc = c.args.alloc } in
    let declared : c.declare_names.new.self ≡ [] ++ map (λ name. begun (Some name.text) 0) b.params.items =
    c.in_ok-declare_names.ensures ∙ ap₂ (λ vs ns. vs ++ map (λ name. begun (Some name.text) 0) ns) c.new-3.ensures c.deref.ensures.value in
    let ended : c.lead_all.new.self.variables ≡ ended_from 0 c.place-end.result c.whole.new.self.variables = c.in_ok-lead_all.ensures.variables ∙ c.in_ok-end_scopes.ensures in
    body_declared c.args.constants c.args.body.now first c.whole.new.self c.lead_all.new.self.variables c.len-params.result first.back c.place-end.result params (ap₂ (λ n b. record { back = n; closes = b }) c.in_ok-field.ensures c.in_ok-closes.ensures) (search rules) declared refl
    c.in_ok-whole.ensures.code c.in_ok-whole.ensures.variables c.place-end.ensures ended
