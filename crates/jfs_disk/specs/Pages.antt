-- Pages in memory, as an image.
use Rattle.std.specs.Prelude.{ℕ, List, [], ◌∷◌, map, get_or, Box}
use Rattle.std.specs.Global.{Global}
use Rattle.jfs_disk.specs.Image.{Image}
use Rattle.jfs_disk.specs.declared.page.Page.{Page}

-- the bytes of each page
abbrev pub contents : List Page → Image
contents pages = map (λ page. page.0) pages

-- the bytes of each page in a box of its own
abbrev pub boxed_contents : List (Box Page Global) → Image
boxed_contents pages = map (λ page. page.value.0) pages

-- one of the contents of a page: the stable one is content 0, the others were written since
abbrev pub content_in : Box Page Global → List (Box Page Global) → ℕ → List ℕ
content_in stable writes k = get_or (stable.value.0 ∷ boxed_contents writes) k []
