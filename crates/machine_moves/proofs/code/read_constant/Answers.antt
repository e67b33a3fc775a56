use Rattle.std.proofs.Common.{◌≡◌, ◌<◌, length, true, rules, subst}
use Rattle.std.specs.Prelude.{nat_lt}
use Rattle.machine_core.specs.World.{Place}
use Rattle.machine_sound.proofs.Lists.{some_is}
use Rattle.machine_moves.proofs.OfCode.{constant_there, constant_made}
use Rattle.machine_moves.proofs.Stacks.{got_there}
use Rattle.machine_moves.proofs.code.read_constant.Goals as goal

pub index-requires : goal.index-requires
index-requires c =
    let k = c.code_on_top.ensures in
    let d = c.requires.there in
    let same : d.place ≡ k.place = some_is d.is k.is in
    let size : c.args.n < length c.code_on_top.result.now.constants.items =
    constant_there c.args.world.now.strings k.number k.place.function.code c.code_on_top.result.now k.says c.args.n (subst (λ (p : Place). nat_lt c.args.n (length p.function.code.own.constants) ≡ true) same d.fits) in
    search rules

pub returns : goal.returns
returns c = λ env.
    let k = c.code_on_top.ensures in
    let d = c.requires.there in
    let same : d.place ≡ k.place = some_is d.is k.is in
    let size : c.args.n < length c.code_on_top.result.now.constants.items =
    constant_there c.args.world.now.strings k.number k.place.function.code c.code_on_top.result.now k.says c.args.n (subst (λ (p : Place). nat_lt c.args.n (length p.function.code.own.constants) ≡ true) same d.fits) in
    constant_made c.args.world.now c.args.n c.code_on_top.result.now c.index.result.now env d k (got_there c.code_on_top.result.now.constants.items c.args.n c.index.result.now size c.index.ensures)
