use Rattle.lua_opening.proofs.SoundOpening.{opened}
use Rattle.lua_feed.proofs.Starting.{is_sound, begun_there, may_go_on}
use Rattle.lua_feed.proofs.script.start.Goals as goal

pub begin-requires : goal.begin-requires
begin-requires c =
    let W = c.in_ok-world.world in
    is_sound c.sessions_are_sound.ensures.opening c.args.prelude W c.rules_hold.ensures (opened c.args.prelude W c.in_ok-world.ensures.plain c.in_ok-world.ensures.codes c.in_ok-world.ensures.listed)

pub returns-clause-begun : goal.returns-clause-begun
returns-clause-begun c =
    let W = c.in_ok-world.world in
    begun_there c.args.prelude c.args.code W c.begin.new.world (opened c.args.prelude W c.in_ok-world.ensures.plain c.in_ok-world.ensures.codes c.in_ok-world.ensures.listed) c.in_ok-begin.ensures.begun

pub returns-clause-may : goal.returns-clause-may
returns-clause-may c =
    let W = c.in_ok-world.world in
    let law = c.sessions_are_sound.ensures in
    may_go_on law.opening law.idle law.begun law.begins c.args.prelude c.args.code W c.begin.new.world c.rules_hold.ensures c.rules_hold-2.ensures
    (opened c.args.prelude W c.in_ok-world.ensures.plain c.in_ok-world.ensures.codes c.in_ok-world.ensures.listed) c.in_ok-begin.ensures.begun c.in_ok-begin.ensures.order
