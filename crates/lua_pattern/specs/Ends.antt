-- All the matches of a list of items at a place, in the order of preference (Lua 5.4 manual, 6.4.1, "Pattern").
use Rattle.std.specs.Prelude.{ℕ, List, [], ◌∷◌}
use Rattle.std.specs.List.{flat_map}
use Rattle.lua_pattern.specs.declared.answer.Capture.{Capture}
use Rattle.lua_pattern.specs.declared.item.Item.{Item}
use Rattle.lua_pattern.specs.Ways.{Found, ways}

-- each way of the first item, and behind it each match of the other items from there on
abbrev pub ends : List ℕ → List Item → ℕ → List Capture → List Found
ends subject [] at captures = record { end = at; captures = captures } ∷ []
ends subject (item ∷ rest) at captures =
    flat_map (λ way. ends subject rest way.end way.captures) (ways subject item at captures)

-- the matches of items at each of some places, one after another
abbrev pub ends_at : List ℕ → List Item → List ℕ → List Capture → List Found
ends_at subject items places captures = flat_map (λ place. ends subject items place captures) places
