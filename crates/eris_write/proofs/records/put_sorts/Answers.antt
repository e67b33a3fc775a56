use Rattle.std.proofs.Common.{◌≡◌, None, length, ap, rules}
use Rattle.byteorder.specs.Endian.{little_bytes}
use Rattle.eris_write.proofs.Putting.{on_ok, puts_both, puts_is}
use Rattle.eris_write.proofs.records.put_sorts.Goals as goal

pub returns : goal.returns
returns c =
    let count : c.len.result ≡ length c.args.objects.now.keys = search rules in
    on_ok c.put_sort_bytes.result c.put_sort_bytes.ensures
    (λ h. puts_both (puts_is _ _ None (little_bytes 4 c.len.result) (little_bytes 4 (length c.args.objects.now.keys)) (ap (little_bytes 4) count) c.in_ok-put_word.ensures) h)
