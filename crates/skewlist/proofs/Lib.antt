-- What the scheduler leaves can be listed, which ceiling its text has, and that the text is the result's own; the listing of network A, and
-- of a file that is cut.
pub mod Texts
pub mod Left
pub mod WorkedText
pub mod CutText
