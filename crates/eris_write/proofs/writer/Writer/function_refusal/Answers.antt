use Rattle.std.proofs.Common.{◌≡◌, Some, None, cond, map, ap, sym, ◌∙◌, rules}
use Rattle.std.specs.Prelude.{nat_eq}
use Rattle.std.specs.List.{list_any}
use Rattle.table_core.specs.declared.value.FuncId.{FuncId}
use Rattle.eris_write.specs.declared.fault.Refusal.TheVariants.{LibraryFunction}
use Rattle.eris_write.specs.Refusals.{refused}
use Rattle.eris_write.proofs.writer.Writer.function_refusal.Goals as goal

pub returns-then-is_among : goal.returns-then-is_among
returns-then-is_among c =
    let e : c.is_among.result ≡ list_any (nat_eq c.args.id.0) (map (λ (f : FuncId). f.0) c.args.self.now.world.now.prelude.funcs.items) = search rules in
    ap (λ b. cond b (Some (refused LibraryFunction)) None) (sym c.if-is_among.true ∙ e)

pub returns : goal.returns
returns c =
    let e : c.is_among.result ≡ list_any (nat_eq c.args.id.0) (map (λ (f : FuncId). f.0) c.args.self.now.world.now.prelude.funcs.items) = search rules in
    ap (λ b. cond b (Some (refused LibraryFunction)) None) (sym c.if-is_among.false ∙ e)
