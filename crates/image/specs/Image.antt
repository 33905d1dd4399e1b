-- Images: the words of a memory as the bytes of a file, "most significant byte first".
use Rattle.std.specs.Prelude.{ℕ, List, [], ◌∷◌, ◌++◌}
use Rattle.layout.specs.Bytes.{bytes_of}

unfoldable pub image_of : List ℕ → List ℕ
image_of [] = []
image_of (w ∷ ws) = bytes_of w ++ image_of ws
