use Rattle.std.proofs.Common.{ap, ◌∙◌, ◌++◌}
use Rattle.std.specs.Prelude.{codes, decimal}
use Rattle.work_script.proofs.Lines.{three_parts}
use Rattle.work_script.proofs.script.append_line.Goals as goal

pub returns : goal.returns
returns c =
    three_parts c.args.text.now.items c.extend_from_slice.new.self.items c.extend_from_slice-2.new.self.items c.extend_from_slice-3.new.self.items
    (codes "do local function f(x) return x+") (decimal c.args.number) (codes " end s=f(s) end\n")
    c.in_ok-extend_from_slice.ensures.items (c.in_ok-extend_from_slice-2.ensures.items ∙ ap (λ bytes. c.extend_from_slice.new.self.items ++ bytes) (c.as_bytes.ensures.value ∙ c.format.ensures.text)) c.in_ok-extend_from_slice-3.ensures.items
