-- The image of what is held whole may stand.
use Rattle.std.proofs.Common.{arith, ℕ, ◌≤◌, ◌≡◌, List, length, Some, subst, ap, ◌∙◌, cond, []}
use Rattle.std.proofs.lemmas.List.{length-map}
use Rattle.int_core.specs.Value.{Value}
use Rattle.machine_core.specs.World.{World}
use Rattle.image_core.specs.Image.{Perm, Image}
use Rattle.image_core.specs.Visit.{IsMet}
use Rattle.image_core.specs.Records.{Part, same_part, parts_in_order, naming, item, image_of}
use Rattle.image_load.specs.Loads.{IsWritten}
use Rattle.image_bytes.specs.Format.{of_kind, read, refused}
use Rattle.image_bytes.specs.Bytes.{Reader, image_format, read_image}
use Rattle.image_bytes.specs.ReadBack.{ImagesReadBack}
use Rattle.image_sound.specs.Fitting.{with_fits}
use Rattle.image_same.specs.Same.{ImagesInOrder, InOrder}
use Rattle.image_sound.proofs.Savable.{savable_is_written}
use Rattle.images_stand.specs.Standing.{ArePermanents, IsHeldWhole, Knows, name, WrittenImagesStand, WrittenImagesAccepted}
use Rattle.images_stand.proofs.Fits.{written_fits}
use Rattle.images_stand.proofs.Whole.{AreSmall, parts_small, image_after}
use Rattle.images_stand.proofs.Kept.{records_stand, roots_stand, named_plainly}

module _ (ordered : ImagesInOrder) (primitives : ℕ) (W : World) (perms : List Perm) (roots : List Value) (R : Reader) (are : ArePermanents perms) (held : IsHeldWhole W perms roots primitives) (knows : Knows W.prelude_environment perms R) where
  abbrev I : Image
  I = image_of W roots perms

  written : (o : Part) → IsMet same_part (parts_in_order W (name W perms roots) roots) o → IsWritten W (name W perms roots) roots o
  written = savable_is_written primitives W (name W perms roots) roots held.savable

  order : InOrder I
  order = ordered W (name W perms roots) roots (named_plainly W perms roots R primitives are knows held.few written) held.few

  as_long : length I.roots ≡ length roots
  as_long = length-map roots (item (naming W (name W perms roots) roots))

  stands_if : AreSmall R I → (image_format R (length I.roots)).after 0 I ≡ Some (length I.records)
  stands_if small =
      image_after R I small (roots_stand W perms roots R primitives are knows held.few written held.savable.solid held.held held.rows small.records held.savable.roots_there)
      (records_stand W perms roots R primitives are knows held.few written held.savable.solid held.held held.rows small.records) order

  stands : (n : ℕ) → length I.roots ≡ n → length ((image_format R n).spell I) ≤ 2147483647 → (image_format R n).after 0 I ≡ Some (length I.records)
  stands n e = subst (λ n. length ((image_format R n).spell I) ≤ 2147483647 → (image_format R n).after 0 I ≡ Some (length I.records)) e here
    where
      here : length ((image_format R (length I.roots)).spell I) ≤ 2147483647 → (image_format R (length I.roots)).after 0 I ≡ Some (length I.records)
      here size = stands_if (parts_small R I (omega (arith, size)))

pub written_images_stand : ImagesInOrder → WrittenImagesStand
written_images_stand ordered primitives W perms roots R are held knows size =
    (length (image_of W roots perms).records, stands ordered primitives W perms roots R are held knows (length roots) (as_long ordered primitives W perms roots R are held knows) size)

-- and it is accepted
pub written_images_accepted : ImagesInOrder → ImagesReadBack → WrittenImagesAccepted
written_images_accepted ordered back primitives W perms roots R code_named are held knows codes size =
    let s = written_images_stand ordered primitives W perms roots R are held knows size in
    let I = image_of W roots perms in (
      s.0,
      ap (with_fits code_named) (read_whole (length roots) (as_long ordered primitives W perms roots R are held knows) s.0 s.1)
          ∙ ap (λ b. cond b (read I s.0 []) (refused (of_kind 9)))
          (written_fits W perms roots R primitives are knows held.few (savable_is_written primitives W (name W perms roots) roots held.savable) held.savable.solid code_named codes),
    )
  where
    read_whole : (n : ℕ) → length (image_of W roots perms).roots ≡ n → (met : ℕ) → (image_format R n).after 0 (image_of W roots perms) ≡ Some met
        → read_image R n ((image_format R n).spell (image_of W roots perms)) ≡ read (image_of W roots perms) met []
    read_whole n e = subst (λ n. (met : ℕ) → (image_format R n).after 0 (image_of W roots perms) ≡ Some met → read_image R n ((image_format R n).spell (image_of W roots perms)) ≡ read (image_of W roots perms) met []) e
        (λ met h. back R (image_of W roots perms) met h)
