use Rattle.std.proofs.Common.{[], List, sym, subst}
use Rattle.int_core.specs.Value.{Value}
use Rattle.machine_core.specs.FrameRows.{raises}
use Rattle.move_laws.specs.Memory.{Leads}
use Rattle.machine_moves.specs.Ending.{ending_of}
use Rattle.machine_moves.specs.Tops.{TopIs}
use Rattle.machine_moves.proofs.OnTop.{if_ok}
use Rattle.machine_asked.specs.Asked.{RefusesAsked}
use Rattle.machine_asked.proofs.AskedFor.{frame_seen, refused_blame, refused_lua, refused_handler, seen_as}
use Rattle.machine_asked.proofs.asked.refuse_asked.Goals as goal

pub raise-requires-clause-frame : goal.raise-requires-clause-frame
raise-requires-clause-frame c = let W = c.args.world.now in frame_seen W c.requires.sound (subst (TopIs W) c.in-Lua.is c.see_top.ensures.top)

pub returns-in-Lua-clause-refuses : goal.returns-in-Lua-clause-refuses
returns-in-Lua-clause-refuses c =
    let W = c.args.world.now in
    let new = c.raise.new.world in
    if_ok c.raise.result c.raise.ensures.leads c.raise.ensures.raised (λ ending l q.
    subst (λ e. RefusesAsked W new c.args.text.now (ending_of e)) (sym q)
    (refused_lua W new c.args.text.now (seen_as c.in-Lua.is c.see_top.ensures.makes)
    (subst (λ e. (env : List Value) → Leads (raises c.args.text.now) env W new (ending_of e)) q l)))

pub returns-in-Missing-clause-refuses : goal.returns-in-Missing-clause-refuses
returns-in-Missing-clause-refuses c = refused_blame c.args.world.now c.blame.new.world c.args.text.now c.blame.result (seen_as c.in-Missing.is c.see_top.ensures.makes) tt c.blame.ensures.leads c.blame.ensures.raised

pub returns-in-Handler-clause-refuses : goal.returns-in-Handler-clause-refuses
returns-in-Handler-clause-refuses c =
    if_ok c.give_up.result c.give_up.ensures.leads c.give_up.ensures.leads (λ ending l _.
    refused_handler c.args.world.now c.give_up.new.world c.args.text.now (ending_of ending) (seen_as c.in-Handler.is c.see_top.ensures.makes) (l []))

pub returns-in-Pcall-clause-refuses : goal.returns-in-Pcall-clause-refuses
returns-in-Pcall-clause-refuses c = refused_blame c.args.world.now c.blame-in-Pcall.new.world c.args.text.now c.blame-in-Pcall.result (seen_as c.in-Pcall.is c.see_top.ensures.makes) tt c.blame-in-Pcall.ensures.leads c.blame-in-Pcall.ensures.raised

pub returns-in-Xpcall-clause-refuses : goal.returns-in-Xpcall-clause-refuses
returns-in-Xpcall-clause-refuses c = refused_blame c.args.world.now c.blame-in-Xpcall.new.world c.args.text.now c.blame-in-Xpcall.result (seen_as c.in-Xpcall.is c.see_top.ensures.makes) tt c.blame-in-Xpcall.ensures.leads c.blame-in-Xpcall.ensures.raised

pub returns-in-Closing-clause-refuses : goal.returns-in-Closing-clause-refuses
returns-in-Closing-clause-refuses c = refused_blame c.args.world.now c.blame-in-Closing.new.world c.args.text.now c.blame-in-Closing.result (seen_as c.in-Closing.is c.see_top.ensures.makes) tt c.blame-in-Closing.ensures.leads c.blame-in-Closing.ensures.raised
