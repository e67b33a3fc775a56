use Rattle.std.proofs.Common.{None, [], ◌∷◌, ◌++◌, ap}
use Rattle.image_core.specs.Records.{sort_of}
use Rattle.lua_heap.specs.Reading.{value}
use Rattle.eris_write.specs.Output.{key_bytes}
use Rattle.eris_write.specs.Writing.{kind_tag}
use Rattle.eris_write.proofs.Putting.{on_ok, puts_both, puts_is}
use Rattle.eris_write.proofs.values.put_permanent.Goals as goal

pub returns : goal.returns
returns c =
    on_ok c.put_key.result c.put_key.ensures
    (λ h texts. puts_is _ _ None ((c.permanent_tag.result ∷ []) ++ key_bytes c.args.key.now) (kind_tag (sort_of (value texts c.args.value)) ∷ key_bytes c.args.key.now)
    (ap (λ t. t ∷ key_bytes c.args.key.now) (c.permanent_tag.ensures texts)) (puts_both c.in_ok-put_byte.ensures h))
