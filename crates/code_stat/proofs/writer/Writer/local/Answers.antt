use Rattle.std.proofs.Common.{rules, ◌≡◌, ◌++◌, ◌∙◌, ap, Some, length, refl}
use Rattle.tree_core.specs.Tree.{exps}
use Rattle.tree_core.specs.Plain.{plain_exps}
use Rattle.code_of.specs.Expressions.{exps_code, made_in}
use Rattle.code_of.specs.Parts.{marks_code}
use Rattle.code_emitter.specs.Listing.{followed, listed}
use Rattle.code_emitter.proofs.Joining.{listed_after}
use Rattle.code_stat.proofs.Drafting.{plainly}
use Rattle.code_stat.proofs.Declaring.{local_declares}
use Rattle.code_stat.proofs.writer.Writer.local.Goals as goal

pub returns-clause-code : goal.returns-clause-code
returns-clause-code c closing =
    let es = exps (plain_exps c.args.values.now.items) in
    let marks = marks_code c.args.names.now.items c.args.level in
    let a = c.args.self.now in
    let count : c.len.result ≡ length c.args.names.now.items = search rules in
    plainly a (record a { emitter = c.write_marks.new.emitter; variables = c.declare_locals.new.self }) (made_in es) (exps_code a.emitter.constants es (Some (length c.args.names.now.items)) c.args.level a.emitter.made c.args.line ++ marks)
    (c.in_ok-write_marks.ensures ∙ ap (λ s. listed s marks) (c.in_ok-list.ensures ∙ ap (λ n. followed a.emitter (exps_code a.emitter.constants es (Some n) c.args.level a.emitter.made c.args.line) (made_in es)) count)
    ∙ listed_after a.emitter (exps_code a.emitter.constants es (Some (length c.args.names.now.items)) c.args.level a.emitter.made c.args.line) (made_in es) marks)
    refl refl

pub returns-clause-variables : goal.returns-clause-variables
returns-clause-variables c closing =
    let count : c.len.result ≡ length c.args.names.now.items = search rules in
    local_declares c.args.self.now (record c.args.self.now { emitter = c.write_marks.new.emitter; variables = c.declare_locals.new.self }) c.list.new.emitter c.args.line c.args.names.now.items (exps (plain_exps c.args.values.now.items)) closing
    c.args.level c.len.result c.place-place.result c.deref.result.now c.in_ok-list.ensures count c.place-place.ensures c.deref.ensures.value c.in_ok-declare_locals.ensures
