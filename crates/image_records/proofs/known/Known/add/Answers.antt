use Rattle.std.proofs.Common.{◌≡◌, [], ◌∷◌, ◌++◌, None, cond, ap, sym, ◌∙◌}
use Rattle.std.specs.Map.{lookup}
use Rattle.indexmap.proofs.CallerLemmas.{insert_entry-new}
use Rattle.image_records.proofs.Keys.{key_eq, known_key, none_is}
use Rattle.image_records.proofs.known.Known.add.Goals as goal

pub returns-then-contains_key-clause-ok : goal.returns-then-contains_key-clause-ok
returns-then-contains_key-clause-ok c =
    let es = c.args.self.now.objects.entries in
    sym (ap (λ b. cond b es (es ++ (c.args.key, c.args.named) ∷ [])) (sym (known_key es c.args.key) ∙ (sym c.contains_key.ensures ∙ c.if-contains_key.true)))

pub returns-in-Ok-clause-ok : goal.returns-in-Ok-clause-ok
returns-in-Ok-clause-ok c =
    let es = c.args.self.now.objects.entries in
    let absent = sym c.contains_key.ensures ∙ c.if-contains_key.false in
    let none : lookup (key_eq c.args.key) es ≡ None = none_is _ absent in
    c.in-Ok.ensures.entries
    ∙ (insert_entry-new key_eq c.args.self.now.objects c.args.key c.args.named none
    ∙ sym (ap (λ b. cond b es (es ++ (c.args.key, c.args.named) ∷ [])) (sym (known_key es c.args.key) ∙ absent)))
