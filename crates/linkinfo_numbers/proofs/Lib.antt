mod FlagReading
mod FlagText
