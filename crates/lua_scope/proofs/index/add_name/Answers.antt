use Rattle.std.proofs.Common.{rules, ◌≡◌, true, false, is_some, sym, ap, ◌∙◌}
use Rattle.lua_scope.specs.Indexed.{found_in}
use Rattle.lua_scope.proofs.Indexing.{kept_first, added_first}
use Rattle.lua_scope.proofs.index.add_name.Goals as goal

pub returns-then-contains_key : goal.returns-then-contains_key
returns-then-contains_key c =
    let labels = c.args.labels.now in
    let there : is_some (found_in c.args.name.now labels) ≡ true =
    ap (λ text. is_some (found_in text labels)) (sym c.as_slice.ensures) ∙ sym c.contains_key.ensures ∙ c.if-contains_key.true in
    λ text. kept_first labels c.args.name.now text c.args.place there

pub returns : goal.returns
returns c =
    let labels = c.args.labels.now in
    let absent : is_some (found_in c.args.name.now labels) ≡ false =
    ap (λ text. is_some (found_in text labels)) (sym c.as_slice.ensures) ∙ sym c.contains_key.ensures ∙ c.if-contains_key.false in
    let key : c.in_ok-key.key.items ≡ c.args.name.now = search rules in
    λ text. added_first labels c.insert.new.self c.in_ok-key.key c.args.name.now text c.args.place key absent c.in_ok-insert.ensures.updates
