use Rattle.std.proofs.Common.{rules, ◌≡◌, length, sym, ap, ◌∙◌}
use Rattle.std.specs.Prelude.{nat_lt}
use Rattle.std.proofs.lemmas.List.{length-map}
use Rattle.tree_core.specs.Plain.{plain_block, plain_body}
use Rattle.code_parts.proofs.Made.{block_made}
use Rattle.code_parts.proofs.bodies.makes_functions.Goals as goal

pub returns : goal.returns
returns c =
    let size : c.len-count.result ≡ length c.in_ok-found.found.items = search rules in
    ap (nat_lt 0) (size ∙ sym (length-map c.in_ok-found.found.items (λ b. plain_body b.now)) ∙ ap length c.in_ok-found.ensures ∙ block_made (plain_block c.args.block.now))
