-- Where the lanes and lines of a picture stand.
pub mod Frame
