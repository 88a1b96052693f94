-- The text of a drawing: each shape as its elements, in order (W3C, Scalable Vector Graphics 1.1).
use Rattle.std.specs.Prelude.{ℕ, List, [], ◌∷◌, ◌++◌, codes, decimal, Option, Some, None}
use Rattle.std.specs.List.{flat_map}
use Rattle.nm_picture_svg.specs.declared.shape.Point.{Point}
use Rattle.nm_picture_svg.specs.declared.shape.Tone.{Tone}
use Rattle.nm_picture_svg.specs.declared.shape.Tone.TheVariants.{Refused}
use Rattle.nm_picture_svg.specs.declared.shape.Anchor.{Anchor}
use Rattle.nm_picture_svg.specs.declared.shape.Tip.{Tip}
use Rattle.nm_picture_svg.specs.declared.shape.Tip.TheVariants.{Bare, Arrow}
use Rattle.nm_picture_svg.specs.declared.shape.Stroke.{Stroke}
use Rattle.nm_picture_svg.specs.declared.shape.Fill.{Fill}
use Rattle.nm_picture_svg.specs.declared.shape.Shape.{Shape}
use Rattle.nm_picture_svg.specs.declared.shape.Shape.TheVariants.{Line, Rectangle, Dot, Cross, Sign, Text}
use Rattle.nm_picture_svg.specs.declared.shape.Group.{Group}
use Rattle.nm_picture_svg.specs.declared.shape.Drawing.{Drawing}
use Rattle.nm_picture_svg.specs.Xml.{attribute, closed, element, escaped, leaf}
use Rattle.nm_picture_svg.specs.Style.{style}
use Rattle.nm_picture_svg.specs.Class.{class_of, class_of_anchor, class_of_fill, class_of_stroke, outline_of, outline_of_cross, outline_of_tip}

-- ---- attributes

-- the classes of a shape: its tone's and a further one, which begins with a space where there is one
abbrev pub classes : Tone → List ℕ → List ℕ
classes tone more = attribute (codes "class") (class_of tone ++ more)

-- a point, by the names of its two attributes
abbrev pub at : List ℕ → List ℕ → Point → List ℕ
at x y point = attribute x (decimal point.x) ++ attribute y (decimal point.y)

-- a width and a height
abbrev pub sized : ℕ → ℕ → List ℕ
sized width height = attribute (codes "width") (decimal width) ++ attribute (codes "height") (decimal height)

-- a move from the upper left corner to a point
abbrev pub translation : Point → List ℕ
translation point = codes "translate(" ++ decimal point.x ++ codes " " ++ decimal point.y ++ codes ")"

-- an outline is moved to a point
abbrev pub moved : Point → List ℕ
moved point = attribute (codes "transform") (translation point)

-- ---- elements

-- an outline around a point
abbrev pub outlined : Tone → List ℕ → Point → List ℕ → List ℕ
outlined tone more point outline = leaf (codes "path") (classes tone more ++ moved point ++ attribute (codes "d") outline)

-- a line without its tip
abbrev pub stroked : Point → Point → Stroke → Tone → List ℕ
stroked from to stroke tone = leaf (codes "line") (classes tone (class_of_stroke stroke) ++ at (codes "x1") (codes "y1") from ++ at (codes "x2") (codes "y2") to)

-- a line's tip
abbrev pub tipped : Tip → Tone → Point → Point → List ℕ
tipped Bare tone from to = []
tipped Arrow tone from to = outlined tone (codes " tip") to (outline_of_tip from to)

-- a rectangle
abbrev pub rectangle : Point → ℕ → ℕ → Fill → Tone → List ℕ
rectangle corner width height fill tone =
    leaf (codes "rect") (classes tone (class_of_fill fill) ++ at (codes "x") (codes "y") corner ++ sized width height)

-- a dot, 10 pixels wide
abbrev pub dot : Point → Tone → List ℕ
dot center tone = leaf (codes "circle") (classes tone [] ++ at (codes "cx") (codes "cy") center ++ attribute (codes "r") (codes "5"))

-- words
abbrev pub words : Point → Anchor → Tone → List ℕ → List ℕ
words place anchor tone text = element (codes "text") (classes tone (class_of_anchor anchor) ++ at (codes "x") (codes "y") place) (escaped text)

-- a text as an element's content, and the element's end
abbrev pub content : List ℕ → List ℕ → List ℕ
content name text = codes ">" ++ escaped text ++ closed name

-- a shape
abbrev pub shape_text : Shape → List ℕ
shape_text (Line from to tip stroke tone) = stroked from to stroke tone ++ tipped tip tone from to
shape_text (Rectangle corner width height fill tone) = rectangle corner width height fill tone
shape_text (Dot center tone) = dot center tone
shape_text (Cross center tone) = outlined tone (codes " cross") center outline_of_cross
shape_text (Sign center fault) = outlined Refused (codes " sign") center (outline_of fault)
shape_text (Text place anchor tone text) = words place anchor tone text

-- ---- groups

-- the title of a group, where it has one
abbrev pub title_text : Option (List ℕ) → List ℕ
title_text None = []
title_text (Some title) = element (codes "title") [] (escaped title)

-- a group: its title and its shapes
abbrev pub group_text : Group → List ℕ
group_text group = element (codes "g") [] (codes "\n" ++ title_text group.title ++ flat_map shape_text group.shapes)

-- ---- the whole

-- the place of a drawing on its page, and its size there
abbrev pub view : ℕ → ℕ → List ℕ
view width height = codes "0 0 " ++ decimal width ++ codes " " ++ decimal height

-- the same as an attribute
unfoldable pub view_box : ℕ → ℕ → List ℕ
view_box width height = attribute (codes "viewBox") (view width height)

-- what a drawing is called by those who read it out
unfoldable pub labelled : List ℕ → List ℕ
labelled label = attribute (codes "role") (codes "img") ++ attribute (codes "aria-label") (escaped label)

-- the names are those of SVG
unfoldable pub namespace : List ℕ
namespace = attribute (codes "xmlns") (codes "http://www.w3.org/2000/svg")

-- the attributes of the whole
unfoldable pub framed : Drawing → List ℕ
framed drawing =
    namespace ++ sized drawing.width drawing.height
    ++ view_box drawing.width drawing.height ++ labelled drawing.label

-- the style sheet as an element
unfoldable pub styled : List ℕ
styled = element (codes "style") [] style

-- all between the tags: the style sheet, and the groups in order
unfoldable pub within : Drawing → List ℕ
within drawing = codes "\n" ++ styled ++ flat_map group_text drawing.groups

-- a drawing
abbrev pub svg_of : Drawing → List ℕ
svg_of drawing = element (codes "svg") (framed drawing) (within drawing)
