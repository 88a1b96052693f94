-- Words that every layer cites: bytes and numbers, masks of devices and change sets, tags, decimals and tokens.
pub mod Words
pub mod Count
pub mod Numbers
pub mod Mask
pub mod Tag
pub mod Decimal
pub mod Token
pub mod Head
