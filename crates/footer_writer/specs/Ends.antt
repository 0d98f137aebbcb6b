-- How a file ends. Source: Apache ORC specification v1, "File Tail" and "Postscript".
use Rattle.std.specs.Prelude.{◌≡◌, ℕ, ◌≤◌, true, List, [], ◌∷◌, ◌++◌, length, Ok}
use Rattle.orc_tail.specs.Messages.{postscript_of}

-- the bytes are the PostScript of a file that isn't compressed, with a footer of so many bytes
abbrev pub IsPostScript : List ℕ → ℕ → Type 0
IsPostScript bytes footer_len = postscript_of bytes ≡ Ok (record { footer_length = footer_len; compression = 0; is_orc = true })

-- the bytes are the footer, a PostScript for it, and the PostScript's length
pub record EndsFile (bytes : List ℕ) (footer : List ℕ) : Type 0 where
  pub postscript : List ℕ
  pub is_postscript : IsPostScript postscript (length footer)
  pub short : length postscript ≤ 255
  pub joined : bytes ≡ footer ++ (postscript ++ length postscript ∷ [])
