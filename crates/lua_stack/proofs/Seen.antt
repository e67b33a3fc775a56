-- A Lua frame that is seen on top is there.
use Rattle.std.proofs.Common.{◌≡◌, Option, Some, refl}
use Rattle.lua_stack.specs.declared.frame.Top.TheVariants.{Lua}
use Rattle.lua_stack.specs.Frames.{KeptLua, KeptFrame, kept_lua, top_is}

pub lua_seen : (o : Option KeptFrame) → Lua ≡ top_is o → (t : KeptLua) × (o ≡ Some (kept_lua t))
lua_seen (Some (kept_lua t)) e = (t, refl)
lua_seen _ e = absurd (cc)
