use Rattle.std.proofs.Common.{◌≡◌, ◌<◌, ◌∷◌, [], length, rules}
use Rattle.chunk_format.specs.Header.{signature, version, format, sizes}
use Rattle.chunk_format.proofs.Kept.{upvalues_few, append_five}
use Rattle.chunk_format.proofs.chunk.write_header.Goals as goal

pub overflow_cast-len : goal.overflow_cast-len
overflow_cast-len c =
    let few : length c.main.inside.upvalues.items < 256 = rw (← c.main.view_is) at (upvalues_few c.args.main.now c.requires) in
    search rules

pub returns : goal.returns
returns c =
    let len : c.len.result ≡ length c.args.main.now.own.upvalues = rw (← c.main.view_is) (search rules) in
    rw (c.in_ok-push.ensures.items, c.in_ok-extend_from_slice-4.ensures.items, c.in_ok-extend_from_slice-3.ensures.items, c.in_ok-extend_from_slice-2.ensures.items, c.in_ok-extend_from_slice.ensures.items, len)
    (append_five c.args.out.now.items signature version format sizes (length c.args.main.now.own.upvalues ∷ []))
