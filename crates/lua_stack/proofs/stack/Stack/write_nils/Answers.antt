use Rattle.std.proofs.Common.{◌+◌, [], ◌∷◌, ◌++◌, length, ap, sym, ◌∙◌, subst}
use Rattle.int_core.specs.Value.{write_all}
use Rattle.machine_core.specs.World.{lua}
use Rattle.lua_stack.specs.Frames.{HasRegisters, with_registers}
use Rattle.lua_stack.specs.View.{seen, blank}
use Rattle.lua_stack.proofs.Parts.{length_blank}
use Rattle.lua_stack.proofs.Own.{put_at_most, top_put, put_stands, map_blank}
use Rattle.lua_stack.proofs.stack.Stack.write_nils.Goals as goal

pub clear-requires : goal.clear-requires
clear-requires c = put_at_most c.self.inside c.args.self.now c.args.at c.args.count c.place_of-to.result c.self.view_is c.self.invariant.0 c.requires c.place_of-to.ensures

pub invariant_of-self : goal.invariant_of-self
invariant_of-self c = (put_stands c.self.inside (blank c.args.count) c.place_of-to.result _ c.self.invariant.0 c.clear.ensures, c.self.invariant.1)

pub returns : goal.returns
returns c =
    let h : HasRegisters c.args.self.now (c.args.at + length (blank c.args.count)) = subst (λ n. HasRegisters c.args.self.now (c.args.at + n)) (sym (length_blank c.args.count)) c.requires in
    let t = top_put c.self.inside c.args.self.now _ (blank c.args.count) c.args.at c.place_of-to.result c.self.view_is c.self.invariant.0 h c.place_of-to.ensures
    (ap (λ xs. seen xs c.self.inside.pending.items c.self.inside.below.items c.self.inside.top c.self.inside.open_cells.items) c.clear.ensures) in
    record {
      top = λ f z below t' e. t.top f z below t' e ∙ ap (λ l. below ++ lua (with_registers (write_all c.args.at l t'.own.registers) t') ∷ []) (map_blank f c.args.count z);
      cells = t.cells;
    }
