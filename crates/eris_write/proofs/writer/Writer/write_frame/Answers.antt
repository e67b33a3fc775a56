use Rattle.std.proofs.Common.{None, [], ◌∷◌, sym, subst}
use Rattle.lua_stack.specs.declared.views.FrameView.{FrameView}
use Rattle.lua_stack.specs.Reading.{viewed}
use Rattle.graph_core.specs.Frames.{fields_of}
use Rattle.eris_write.specs.Frames.{FrameStands, frame_bytes}
use Rattle.eris_write.specs.Writing.{Writes, texts_in}
use Rattle.lua_stack.specs.Frames.{kept_pcall, kept_handler}
use Rattle.eris_write.proofs.Putting.{on_ok, puts_as}
use Rattle.eris_write.proofs.Spelled.{bare_spelled}
use Rattle.eris_write.proofs.writer.Writer.write_frame.Goals as goal

pub returns-in-Pcall : goal.returns-in-Pcall
returns-in-Pcall c =
    let w = c.args.self.now in
    on_ok c.put_byte.result c.put_byte.ensures
    (λ h. subst (λ (f : FrameView). Writes w c.args.out.now c.put_byte.new.self (fields_of (texts_in w) (viewed f)) (frame_bytes w (viewed f))) (sym c.in-Pcall.is)
    (puts_as _ _ None (λ _. 2 ∷ []) (frame_bytes w kept_pcall) (λ R. sym (bare_spelled R).0) h))

pub returns-in-Handler : goal.returns-in-Handler
returns-in-Handler c =
    let w = c.args.self.now in
    on_ok c.put_byte-in-Handler.result c.put_byte-in-Handler.ensures
    (λ h. subst (λ (f : FrameView). Writes w c.args.out.now c.put_byte-in-Handler.new.self (fields_of (texts_in w) (viewed f)) (frame_bytes w (viewed f))) (sym c.in-Handler.is)
    (puts_as _ _ None (λ _. 4 ∷ []) (frame_bytes w kept_handler) (λ R. sym (bare_spelled R).1) h))

pub write_lua-requires : goal.write_lua-requires
write_lua-requires c = subst (λ (f : FrameView). FrameStands (texts_in c.args.self.now) (viewed f)) c.in-Lua.is c.requires

pub write_xpcall-requires : goal.write_xpcall-requires
write_xpcall-requires c = subst (λ (f : FrameView). FrameStands (texts_in c.args.self.now) (viewed f)) c.in-Xpcall.is c.requires

pub write_closing-requires-clause-error : goal.write_closing-requires-clause-error
write_closing-requires-clause-error c = (subst (λ (f : FrameView). FrameStands (texts_in c.args.self.now) (viewed f)) c.in-Closing.is c.requires).0

pub write_closing-requires-clause-left : goal.write_closing-requires-clause-left
write_closing-requires-clause-left c = (subst (λ (f : FrameView). FrameStands (texts_in c.args.self.now) (viewed f)) c.in-Closing.is c.requires).1
