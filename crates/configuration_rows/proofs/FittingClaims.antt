-- A user's claims fit: what is written of them is read as the same claims.
use Rattle.std.proofs.Common.{◌≡◌, ◌<◌, ◌≤◌, ◌^◌, ℕ, Bool, List, sym, subst, arith}
use Rattle.std.specs.Str.{IsUtf8}
use Rattle.serde_json.specs.Data.{Data, Members, no_members, put, string, boolean, number, unsigned, object, depth}
use Rattle.claim_set.specs.Fitting.{Fits, ClaimsFit}
use Rattle.claim_set.proofs.Fitting.{ClaimsFit-none, ClaimsFit-put}

fits_after : (k : List ℕ) (d : Data) (old new : Members) → IsUtf8 k → Fits d → depth d ≤ 126 → new ≡ put k d old → ClaimsFit old → ClaimsFit new
fits_after k d old new u f n is h = subst ClaimsFit (sym is) (ClaimsFit-put k d old u f n h)

pub text_fits : (k t : List ℕ) (old new : Members) → IsUtf8 k → IsUtf8 t → new ≡ put k (string t) old → ClaimsFit old → ClaimsFit new
text_fits k t old new u v is h = fits_after k (string t) old new u v (omega arith) is h

pub flag_fits : (k : List ℕ) (b : Bool) (old new : Members) → IsUtf8 k → new ≡ put k (boolean b) old → ClaimsFit old → ClaimsFit new
flag_fits k b old new u is h = fits_after k (boolean b) old new u tt (omega arith) is h

pub number_fits : (k : List ℕ) (n : ℕ) (old new : Members) → IsUtf8 k → n < 2 ^ 64 → new ≡ put k (number (unsigned n)) old → ClaimsFit old → ClaimsFit new
number_fits k n old new u less is h = fits_after k (number (unsigned n)) old new u less (omega arith) is h

pub set_fits : (k : List ℕ) (ms old new : Members) → IsUtf8 k → ClaimsFit ms → depth (object ms) ≤ 126 → new ≡ put k (object ms) old → ClaimsFit old → ClaimsFit new
set_fits k ms old new u f n is h = fits_after k (object ms) old new u f.members n is h

pub none_fits : ClaimsFit no_members
none_fits = ClaimsFit-none
