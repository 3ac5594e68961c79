-- What it is to put text behind text: what was there stays, and the text follows. Assumes nothing.
use Rattle.std.specs.Prelude.{◌≡◌, refl, List, [], ◌∷◌, ◌++◌, ℕ, ◌+◌, ◌<◌, length, take, get_or}
use Rattle.std.proofs.Common.{sym, ap, ◌∙◌, append_assoc, append-nil, add-one, length-append, take-suc}

abbrev pub Put : List ℕ → List ℕ → List ℕ → Type 0
Put before text after = after ≡ before ++ text

-- one byte
pub put_byte : (page : List ℕ) (b : ℕ) → Put page (b ∷ []) (page ++ b ∷ [])
put_byte page b = refl

-- no text
pub put_none : (page : List ℕ) → Put page [] page
put_none page = sym (append-nil page)

-- one text after another
pub put_both : (page one two : List ℕ) {between after : List ℕ} → Put page one between → Put between two after → Put page (one ++ two) after
put_both page one two f g = g ∙ ap (λ l. l ++ two) f ∙ append_assoc page one two

-- the next byte of a text
pub put_more : (text page between : List ℕ) (i : ℕ) → i < length text → Put page (take i text) between → Put page (take (i + 1) text) (between ++ get_or text i 0 ∷ [])
put_more text page between i h f =
    let e : take (i + 1) text ≡ take i text ++ (get_or text i 0 ∷ []) = rw add-one (take-suc text i 0 h) in
    rw e (put_both page (take i text) (get_or text i 0 ∷ []) f (put_byte between (get_or text i 0)))

-- text grows by the length of what is put
pub put-length : (page text : List ℕ) {after : List ℕ} → Put page text after → length after ≡ length page + length text
put-length page text f = ap length f ∙ length-append page text
