-- What contracts see of a prototype that is kept with its lists of functions.
use Rattle.std.specs.Prelude.{◌+◌, ◌≤◌, List, [], ◌∷◌}
use Rattle.std.proofs.Common.{arith}
use denote.Param.Weighed.{most}
use Rattle.code_core.specs.Prototype.{Prototype, prototypes, count, inner_count}
use Rattle.code_core.specs.declared.proto.Proto.TheInside.{Inside}

abbrev pub view_of : Inside → Prototype
view_of p = record {
  own = record {
    source = p.source;
    line_defined = p.line_defined;
    last_line = p.last_line;
    params = p.params;
    vararg = p.vararg;
    stack = p.stack;
    code = p.code.items;
    constants = p.constants.items;
    upvalues = p.upvalues.items;
    line_info = p.line_info.items;
    abs_lines = p.abs_lines.items;
    locals = p.locals.items;
    up_names = p.up_names.items;
  };
  inner = prototypes p.protos.items;
}

pub most_below-count : (ps : List Prototype) → most (λ p. inner_count p + 1) ps ≤ count (prototypes ps)
most_below-count [] = omega arith
most_below-count (p ∷ ps) = omega (arith, most_below-count ps)
