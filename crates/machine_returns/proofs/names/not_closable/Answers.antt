use Rattle.std.proofs.Common.{rules, ◌≡◌, ◌++◌, List, ℕ, ap, ◌∙◌}
use Rattle.std.specs.Prelude.{codes}
use Rattle.code_core.specs.Prototype.{Prototype}
use Rattle.machine_returns.specs.Names.{name_in, open_text}
use Rattle.machine_returns.proofs.names.not_closable.Goals as goal

abbrev around : List ℕ → List ℕ
around name = codes "variable '" ++ name ++ codes "' got a non-closable value"

pub returns : goal.returns
returns c =
    let p : Prototype = c.proto_on_top-proto.result.now in
    let locals : c.deref.result.now ≡ p.own.locals = c.deref.ensures.value ∙ ap (λ (p : Prototype). p.own.locals) c.proto.view_is in
    let items : c.extend_from_slice-2.new.self.items ≡ around c.name_in-name.result.now = search rules in
    record {
      is = λ place is.
          items
          ∙ ap around (c.name_in-name.ensures ∙ ap (name_in c.args.pc c.args.register) locals)
          ∙ ap (λ (p : Prototype). open_text p c.args.pc c.args.register) (c.proto_on_top-proto.ensures.is place is);
    }
