-- What stands in a frame that is read, in the words that contracts see of a stack.
use Rattle.std.specs.Prelude.{◌++◌}
use Rattle.lua_stack.specs.declared.views.FrameView.{FrameView}
use Rattle.lua_stack.specs.declared.views.FrameView.TheVariants.{Lua, Pcall, Xpcall, Handler, Closing}
use Rattle.lua_stack.specs.declared.views.LuaView.{LuaView}
use Rattle.lua_stack.specs.Frames.{KeptLua, KeptFrame, kept_lua, kept_pcall, kept_xpcall, kept_handler, kept_closing}
use Rattle.lua_stack.specs.View.{blank}

abbrev pub viewed_lua : LuaView → KeptLua
viewed_lua v = record {
  function = v.function;
  wait = v.wait;
  pc = v.pc;
  registers = v.registers.now ++ blank v.nils;
  varargs = v.varargs.now;
  pending = v.pending.now;
  opened = v.opened;
}

abbrev pub viewed : FrameView → KeptFrame
viewed (Lua v) = kept_lua (viewed_lua v)
viewed Pcall = kept_pcall
viewed (Xpcall handler) = kept_xpcall handler
viewed Handler = kept_handler
viewed (Closing error left) = kept_closing error left.now
