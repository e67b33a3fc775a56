use Rattle.std.proofs.Common.{◌≡◌, ap, sym, subst}
use Rattle.int_core.specs.Operations.{does}
use Rattle.meta_ops.specs.Heap.{heap_in}
use Rattle.meta_ops.specs.Operation.{kind_of, more_of, operands_of, strings_after}
use Rattle.meta_ops.specs.Outcome.{settled}
use Rattle.meta_ops.proofs.operation.operate.Goals as goal

pub returns-in-Index-clause-does : goal.returns-in-Index-clause-does
returns-in-Index-clause-does c =
    let texts = c.args.strings.now in
    let H = heap_in texts c.args.tables.now.objects c.args.string_meta in
    subst (λ q. does (kind_of q) (operands_of texts q) H ≡ settled texts H (more_of texts q) c.index_of.result) (sym c.in-Index.is) c.index_of.ensures

pub returns-in-Index-clause-strings : goal.returns-in-Index-clause-strings
returns-in-Index-clause-strings c = ap (strings_after c.args.strings.now) (sym c.in-Index.is)

pub returns-in_ok-outcome-in-Store-clause-does : goal.returns-in_ok-outcome-in-Store-clause-does
returns-in_ok-outcome-in-Store-clause-does c =
    let texts = c.args.strings.now in
    let H = heap_in texts c.args.tables.now.objects c.args.string_meta in
    let G = heap_in texts c.store_field.new.tables.objects c.args.string_meta in
    subst (λ q. does (kind_of q) (operands_of texts q) H ≡ settled texts G (more_of texts q) c.in_ok-outcome-in-Store.outcome) (sym c.in-Store.is) c.in_ok-outcome-in-Store.ensures.does

pub returns-in_ok-outcome-in-Store-clause-strings : goal.returns-in_ok-outcome-in-Store-clause-strings
returns-in_ok-outcome-in-Store-clause-strings c = ap (strings_after c.args.strings.now) (sym c.in-Store.is)
