use Rattle.std.proofs.Common.{◌≡◌, true, rules, ap, sym, subst, ◌∙◌}
use Rattle.std.specs.List.{list_all}
use Rattle.code_core.specs.Prototype.{Prototype}
use Rattle.code_core.specs.Writable.{constant_fits}
use Rattle.lua_heap.specs.Codes.{IsCode}
use Rattle.lua_heap.proofs.Growing.{constants_fit}
use Rattle.lua_heap.proofs.adding.own_code.Goals as goal

pub values_of-requires : goal.values_of-requires
values_of-requires c =
    subst (λ ks. list_all constant_fits ks ≡ true) (sym (c.deref.ensures.value ∙ ap (λ (p : Prototype). p.own.constants) c.proto.view_is)) (constants_fit c.args.proto.now c.requires)

pub returns-clause-code : goal.returns-clause-code
returns-clause-code c = record {
  numbered = λ n whole same is.
      subst (IsCode c.values_of.new.strings n c.args.proto.now) (sym same)
      (record { checked = c.requires; words = search rules; constants = search rules; stack = search rules; params = search rules; vararg = search rules; upvalues = search rules; inner = is });
}
