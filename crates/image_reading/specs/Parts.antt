-- Which values are wanted at a place, and the formats of a permanent and of a frame of `coroutine.close`.
use Rattle.std.specs.Prelude.{Bool}
use Rattle.int_core.specs.Value.{Kind}
use Rattle.image_core.specs.Image.{Item, permanent, FrameItem, closing_item}
use Rattle.image_bytes.specs.Format.{Format, case, followed, list}
use Rattle.image_bytes.specs.Bytes.{Reader, error_format, item_format, key_of_sort, named_key, of_closing, is_function_item, is_table_or_nil}
use Rattle.image_reading.specs.declared.item.Wanted.{Wanted}
use Rattle.image_reading.specs.declared.item.Wanted.TheVariants as wanted

abbrev pub is_wanted : Wanted → Reader → Item → Bool
is_wanted wanted.Function R = is_function_item R
is_wanted wanted.Metatable R = is_table_or_nil R

-- each behind its tag

abbrev pub permanent_format : Reader → Kind → Format Item
permanent_format R kind = case (permanent kind) (key_of_sort R kind) (named_key R kind)

abbrev pub closing_format : Reader → Format FrameItem
closing_format R = case (λ x. closing_item x.0 x.1) (of_closing R) (followed (error_format R) (λ _. list (item_format R)))
